-- How a session goes on, and how it ends.
use Rattle.std.proofs.Common.{◌≡◌, ◌∙◌, refl, ap, sym, subst, ℕ, suc, ◌≤◌, ◌⊎◌, Bool, true, false, List, [], ◌∷◌, ◌++◌, Option, None, Some, Ok, Err, Result, IfSome, IsErrAnd, arith, append_assoc}
use Rattle.std.proofs.lemmas.Grind.{flat_map-append}
use Rattle.std.proofs.lemmas.List.{append-nil}
use Rattle.wm_criteria.specs.Building.{Grew, Log}
use Rattle.wm_criteria.specs.Building as building
use Rattle.wm_criteria.proofs.BuildingLemmas.{grew_both}
use Rattle.wm_history.specs.History.{Start, opening_of, stopped}
use Rattle.wm_history.specs.Look.{look}
use Rattle.wm_core.specs.Passes.{Looked, Pass, Saw}
use Rattle.wm_core.specs.declared.asked.Asked.TheVariants as asked
use Rattle.wm_history.specs.declared.look.Query.TheVariants as query
use Rattle.wm_history.specs.declared.look.View.{View}
use Rattle.wm_history.specs.declared.look.View.TheVariants as view
use Rattle.wm_core.specs.declared.refusals.ActRefusal.{ActRefusal}
use Rattle.wm_core.specs.declared.refusals.ActRefusal.TheVariants as refusals
use Rattle.wm_frames.specs.Frame.{frame}
use Rattle.wm_frames.specs.Reading.{messages, reading}
use Rattle.wm_frames.specs.declared.message.Message.{Message}
use Rattle.wm_ports.specs.Linking.{LinkTold, SendsAll, SendsPart}
use Rattle.wm_talk.specs.Calls.{call_of}
use Rattle.wm_talk.specs.Frames.{frames}
use Rattle.wm_talk.specs.Talking.{NEW, above_of, after_events, after_reply}
use Rattle.wm_talk.specs.Told.{replied, told}
use Rattle.wm_talk.specs.declared.calls.Call.{Call}
use Rattle.wm_talk.specs.declared.calls.Call.TheVariants as call
use Rattle.wm_talk.specs.declared.got.Got.{Got}
use Rattle.wm_talk.specs.declared.got.Got.TheVariants as got
use Rattle.wm_talk.specs.declared.talk.Talk.{Talk}
use Rattle.wm_session.specs.Called.{Called, Gave, Stepped}
use Rattle.wm_session.specs.Endings.{end_of_refusal}
use Rattle.wm_session.specs.Linked.{SinceBy}
use Rattle.wm_session.specs.Served.{IsAsked, IsCause, Served, Stage, is_whole, stage}
use Rattle.wm_session.specs.Serving.{Goes, GoesOn, Going, Spot, walk_at}
use Rattle.wm_session.specs.Telling.{IsSendEnd, Tells, Wire, wire}
use Rattle.wm_session.specs.Walk.{Fit, IsFree, IsStepOf, Walk, answered_by, missed, walk}
use Rattle.wm_session.specs.declared.ending.SessionEnd.{SessionEnd}
use Rattle.wm_session.specs.declared.ending.SessionEnd.TheVariants as end
use Rattle.wm_session.proofs.CallLemmas.{looks_at_no_events}
use Rattle.wm_session.proofs.GoesLemmas.{goes_asked, goes_first, goes_looked, goes_read, goes_saw, goes_took}
use Rattle.wm_session.proofs.LinkLemmas.{SendsBy, since_by, since_start, since_unsent}
use Rattle.wm_session.proofs.WalkLemmas.{begins_same}

-- ---- beginning

pub grew_none : (log : Log) → Grew log log []
grew_none log = record { kept = omega arith; rose = omega arith; told = same log.texts }
  where
    same : (o : Option (List (List ℕ))) → building.Tells o o []
    same None = tt
    same (Some texts) = ap Some (sym (append-nil texts))

-- no bytes have no messages
none_in_nothing : messages [] ≡ []
unfolding reading
none_in_nothing = refl

-- where a session begins
abbrev pub START : Spot
START = record { talk = NEW; due = None; stopping = false; behind = None; received = []; ahead = []; turns = 0; stops = 0 }

pub going_first : (first : Stage) → Going true first first START
going_first first = record {
  given = [];
  told = [];
  refused = [];
  beside = [];
  goes = goes_first first.pass;
  messages_are = none_in_nothing;
  sent = since_start first.link;
  risen = omega arith;
  grew = grew_none first.log;
  none = λ w. refl;
}

-- ---- going on

frames_both : (xs ys : List Message) → frames xs ++ frames ys ≡ frames (xs ++ ys)
frames_both xs ys = sym (flat_map-append frame xs ys)

-- events were read, and all or a first part of them was sent
pub going_read : (whole : Bool) (first now : Stage) (s : Spot) (pass : Pass) (link : Option LinkTold) (faults above : ℕ) (v : View)
    → Going true first now s → s.due ≡ Some above → s.behind ≡ None
    → Looked now.pass pass (asked.Query (query.Events above)) (λ start seen. v ≡ look start seen now.pass.caller (query.Events above))
    → SendsBy whole now.link link (frames (told s.talk v)) → now.faults ≤ faults
    → Going whole first (stage pass link faults now.log) (record s { talk = after_events v s.talk; due = None; behind = missed v })
going_read whole first now s pass link faults above v g due kept looked sends more = record {
  given = g.given;
  told = g.told ++ told s.talk v;
  refused = g.refused;
  beside = g.beside;
  goes = goes_read first.pass now.pass pass g.given (walk_at s g.told) g.refused s.stops above v g.goes due kept looked;
  messages_are = g.messages_are;
  sent = subst (λ bytes. SinceBy whole first.link link s.received bytes s.turns) (frames_both g.told (told s.talk v))
      (since_by whole first.link now.link link s.received (frames g.told) (frames (told s.talk v)) s.turns g.sent sends);
  risen = omega (arith, g.risen, more);
  grew = g.grew;
  none = λ w. g.none refl;
}

-- a step was taken, which is what the walk goes on by
stepped_goes : (first now new : Pass) (given : List Message) (w : Walk) (refused patterns : List (List ℕ)) (stops : ℕ) (m : Message) (c : Call) (g : Got)
    → call_of m ≡ c → Stepped now new c g patterns → Goes first now given w refused stops → IsFree w
    → Goes first new (given ++ m ∷ []) (answered_by m g w) (refused ++ patterns) stops
stepped_goes first now new given w refused patterns stops m c g is s goes free =
    subst (λ x. Goes first new (given ++ m ∷ []) (answered_by m x w) (refused ++ patterns) stops) (sym s.gave)
    (subst (λ ps. Goes first new (given ++ m ∷ []) (answered_by m (got.Answer s.said) w) (refused ++ ps) stops) (sym s.patterns)
    (goes_took first now new given w refused stops m s.act s.said goes free (subst (λ x. IsStepOf x s.act) (sym is) s.step) s.took))

-- what a call gave is what the walk goes on by
gave_goes : (first now new : Pass) (given : List Message) (w : Walk) (refused patterns : List (List ℕ)) (stops : ℕ) (m : Message) (c : Call) (g : Got)
    → call_of m ≡ c → Gave now new c g patterns → Goes first now given w refused stops → IsFree w
    → Goes first new (given ++ m ∷ []) (answered_by m g w) (refused ++ patterns) stops
gave_goes first now new given w refused patterns stops m (call.Look q) (got.View v) is gave goes free =
    subst (λ ps. Goes first new (given ++ m ∷ []) (answered_by m (got.View v) w) (refused ++ ps) stops) (sym gave.1)
    (subst (λ ps. Goes first new (given ++ m ∷ []) (answered_by m (got.View v) w) ps stops) (sym (append-nil refused))
    (goes_looked first now new given w refused stops m q v goes free is (looks_at_no_events m q is) gave.0))
gave_goes first now new given w refused patterns stops m (call.Look q) (got.Answer a) is gave goes free = absurd gave
gave_goes first now new given w refused patterns stops m (call.Run text) g is gave goes free = stepped_goes first now new given w refused patterns stops m (call.Run text) g is gave goes free
gave_goes first now new given w refused patterns stops m (call.Tick text) g is gave goes free = stepped_goes first now new given w refused patterns stops m (call.Tick text) g is gave goes free

-- the next message was answered, and all or a first part of its reply was sent
pub going_answered : (whole : Bool) (first now : Stage) (s : Spot) (pass : Pass) (link : Option LinkTold) (faults : ℕ) (log : Log) (m : Message) (rest : List Message) (g : Got) (patterns : List (List ℕ))
    → Going true first now s → s.due ≡ None → s.stopping ≡ false → s.behind ≡ None → s.ahead ≡ m ∷ rest
    → Gave now.pass pass (call_of m) g patterns → Grew now.log log patterns
    → SendsBy whole now.link link (frames (replied s.talk m g)) → now.faults ≤ faults
    → Going whole first (stage pass link faults log) (record s { talk = after_reply m g s.talk; due = above_of (after_reply m g s.talk); ahead = rest })
going_answered whole first now s pass link faults log m rest g patterns h due going kept ahead gave grew sends more = record {
  given = h.given ++ m ∷ [];
  told = h.told ++ replied s.talk m g;
  refused = h.refused ++ patterns;
  beside = [];
  goes = gave_goes first.pass now.pass pass h.given (walk_at s h.told) h.refused patterns s.stops m (call_of m) g refl gave h.goes (record { read = due; going = going; kept = kept });
  messages_are = h.messages_are ∙ ap (λ ms. h.given ++ ms) ahead ∙ sym (append_assoc h.given (m ∷ []) rest);
  sent = subst (λ bytes. SinceBy whole first.link link s.received bytes s.turns) (frames_both h.told (replied s.talk m g))
      (since_by whole first.link now.link link s.received (frames h.told) (frames (replied s.talk m g)) s.turns h.sent sends);
  risen = omega (arith, h.risen, more);
  grew = subst (λ ps. Grew first.log log ps) (ap (λ ps. (h.refused ++ ps) ++ patterns) (h.none refl) ∙ ap (λ ps. ps ++ patterns) (append-nil h.refused) ∙ sym (append-nil (h.refused ++ patterns)))
      (grew_both first.log now.log log (h.refused ++ h.beside) patterns h.grew grew);
  none = λ w. refl;
}

-- nothing more was done than that patterns were refused
pub going_no_further : (first now : Stage) (s : Spot) (pass : Pass) (faults : ℕ) (log : Log) (patterns : List (List ℕ))
    → Going true first now s → Saw now.pass pass → Grew now.log log patterns → now.faults ≤ faults
    → Going false first (stage pass now.link faults log) s
going_no_further first now s pass faults log patterns h saw grew more = record {
  given = h.given;
  told = h.told;
  refused = h.refused;
  beside = h.beside ++ patterns;
  goes = goes_saw first.pass now.pass pass h.given (walk_at s h.told) h.refused s.stops h.goes saw;
  messages_are = h.messages_are;
  sent = since_unsent first.link now.link s.received (frames h.told) s.turns h.sent;
  risen = omega (arith, h.risen, more);
  grew = subst (λ ps. Grew first.log log ps) (append_assoc h.refused h.beside patterns) (grew_both first.log now.log log (h.refused ++ h.beside) patterns h.grew grew);
  none = λ w. cc;
}

-- it was asked whether the desk is to stop
pub going_asked : (first now : Stage) (s : Spot) (pass : Pass) (says : Bool)
    → Going true first now s → s.due ≡ None → s.stopping ≡ false → s.behind ≡ None
    → Looked now.pass pass asked.Stopped (λ start seen. says ≡ stopped start seen)
    → Going true first (stage pass now.link now.faults now.log) (record s { due = above_of s.talk; stopping = says; stops = suc s.stops })
going_asked first now s pass says h due going kept looked = record {
  given = h.given;
  told = h.told;
  refused = h.refused;
  beside = h.beside;
  goes = goes_asked first.pass now.pass pass h.given (walk_at s h.told) h.refused s.stops says h.goes (record { read = due; going = going; kept = kept }) looked;
  messages_are = h.messages_are;
  sent = h.sent;
  risen = h.risen;
  grew = h.grew;
  none = h.none;
}

-- ---- ending

if_some : {A : Type 0} {P : A → Type 0} (o : Option A) → ((x : A) → o ≡ Some x → P x) → IfSome o P
if_some None h = tt
if_some (Some x) h = h x refl

-- a session that has come to a spot has ended there, where that end has its cause
pub served_at : (first now : Stage) (s : Spot) (e : SessionEnd) → Going (is_whole e) first now s → IsAsked e s.turns s.stops
    → ((told : List Message) → IsCause e s.received first now (record (walk_at s told) { left = s.ahead }))
    → Served first now e
served_at first now s e h asks cause =
    let g = h.goes in
    record {
      marks = g.marks;
      received = s.received;
      turns = s.turns;
      beside = h.beside;
      pass = g.pass;
      begins = g.begins;
      served = if_some first.pass.opening (λ plan opened.
          let start : Start = opening_of plan in
          let walks = g.walks plan opened in
          let is : walk start first.pass.caller now.pass.seen (messages s.received) g.marks ≡ record (walk_at s h.told) { left = s.ahead } =
          ap (λ ms. walk start first.pass.caller now.pass.seen ms g.marks) h.messages_are ∙ walks.is now.pass.seen s.ahead (begins_same now.pass.seen) in
          record {
            fit = λ later b. subst (λ ms. Fit start first.pass.caller later ms g.marks) (sym h.messages_are) (walks.fit later s.ahead b);
            sent = subst (λ w. SinceBy (is_whole e) first.link now.link s.received (frames w.told) s.turns) (sym is) h.sent;
            cause = subst (IsCause e s.received first now) (sym is) (cause h.told);
          });
      asked = subst (IsAsked e s.turns) (sym g.stops_are) asks;
      backed = subst (λ ps. Grew first.log now.log (ps ++ h.beside)) (sym (g.refused_is now.pass.seen (begins_same now.pass.seen))) h.grew;
    }

-- a session that sent all may have sent a first part
pub going_part : (first now : Stage) (s : Spot) → Going true first now s → Going false first now s
going_part first now s h = record {
  given = h.given;
  told = h.told;
  refused = h.refused;
  beside = h.beside;
  goes = h.goes;
  messages_are = h.messages_are;
  sent = since_unsent first.link now.link s.received (frames h.told) s.turns h.sent;
  risen = h.risen;
  grew = h.grew;
  none = λ w. cc;
}

-- the talk and what is due are these
pub going_as : (whole : Bool) (first now : Stage) (s : Spot) (talk : Talk) (due : Option ℕ) → Going whole first now s → s.talk ≡ talk → s.due ≡ due
    → Going whole first now (record s { talk = talk; due = due })
going_as whole first now s talk due h e f =
    subst (λ t. Going whole first now (record s { talk = t; due = due })) e (subst (λ d. Going whole first now (record s { due = d })) f h)

-- ---- what was not done for want of memory, or because the link or the door failed

pub served_no_memory : (first now : Stage) (s : Spot) → Going false first now s → (s.turns ≡ s.stops) ⊎ (s.turns ≡ suc s.stops) → Served first now end.NoMemory
served_no_memory first now s h asks = served_at first now s end.NoMemory h asks (λ told. tt)

-- the end of a session by a sending
pub served_unsent : (first now : Stage) (s : Spot) (old : ℕ) (e : SessionEnd) → Going false first now s → first.faults ≤ old → IsSendEnd e old now.faults
    → (s.turns ≡ s.stops) ⊎ (s.turns ≡ suc s.stops) → Served first now e
served_unsent first now s old end.LinkFault h before is asks = served_at first now s end.LinkFault h asks (λ told. omega (arith, before, is))
served_unsent first now s old end.NoMemory h before is asks = served_no_memory first now s h asks
served_unsent first now s old end.Closed h before is asks = absurd is
served_unsent first now s old (end.Truncated count) h before is asks = absurd is
served_unsent first now s old (end.Magic at) h before is asks = absurd is
served_unsent first now s old (end.TooLong at len) h before is asks = absurd is
served_unsent first now s old end.Stopped h before is asks = absurd is
served_unsent first now s old (end.Lagged oldest) h before is asks = absurd is
served_unsent first now s old end.Exhausted h before is asks = absurd is

-- ---- telling

missed_told : (t : Talk) (v : View) (oldest : ℕ) → missed v ≡ Some oldest → told t v ≡ []
missed_told t (view.Lagged n) oldest e = refl
missed_told t (view.Events events) oldest e = cc
missed_told t (view.Tree x) oldest e = cc
missed_told t (view.Workspaces x) oldest e = cc
missed_told t (view.Outputs x) oldest e = cc
missed_told t (view.Marks x) oldest e = cc
missed_told t (view.Modes x) oldest e = cc
missed_told t (view.Mode x) oldest e = cc
missed_told t (view.Config x) oldest e = cc
missed_told t (view.State x) oldest e = cc
missed_told t (view.Wants x) oldest e = cc

nothing_sent : (link : Option LinkTold) (bytes : List ℕ) → bytes ≡ [] → SendsAll link link bytes
nothing_sent None bytes none = tt
nothing_sent (Some t) bytes none = ap {A = List ℕ} (λ sent. Some (record t { sent = sent })) (sym (append-nil t.sent) ∙ ap (λ b. t.sent ++ b) (sym none))

-- events were read, and a first part of them was sent
tells_not : (first now : Stage) (s : Spot) (pass : Pass) (link : Option LinkTold) (faults above : ℕ) (v : View) (e : SessionEnd)
    → Going true first now s → s.due ≡ Some above → s.behind ≡ None → (s.turns ≡ s.stops) ⊎ (s.turns ≡ suc s.stops)
    → Looked now.pass pass (asked.Query (query.Events above)) (λ start seen. v ≡ look start seen now.pass.caller (query.Events above))
    → SendsPart now.link link (frames (told s.talk v)) × (now.faults ≤ faults) × IsSendEnd e now.faults faults
    → Served first (stage pass link faults now.log) e
tells_not first now s pass link faults above v e h due kept asks looked (part, more, is) =
    served_unsent first (stage pass link faults now.log) (record s { talk = after_events v s.talk; due = None; behind = missed v }) now.faults e
    (going_read false first now s pass link faults above v h due kept looked part more) h.risen is asks

-- events were read, and the session goes on or ends by how they were told
pub tells_on : {A : Type 0} (first now : Stage) (s : Spot) (pass : Pass) (link : Option LinkTold) (faults above : ℕ) (v : View) (after : Talk) (r : Result A SessionEnd)
    → Going true first now s → s.due ≡ Some above → s.behind ≡ None → (s.turns ≡ s.stops) ⊎ (s.turns ≡ suc s.stops)
    → Looked now.pass pass (asked.Query (query.Events above)) (λ start seen. v ≡ look start seen now.pass.caller (query.Events above))
    → Tells v s.talk after (wire now.link now.faults) (wire link faults) r
    → GoesOn first (stage pass link faults now.log) (λ x. Going true first (stage pass link faults now.log) (record s { talk = after; due = None })) r
tells_on first now s pass link faults above v after (Ok x) h due kept asks looked (is, none, sent) =
    let to : Stage = stage pass link faults now.log in
    subst (λ b. Going true first to (record s { talk = after; due = None; behind = b })) (none ∙ sym kept)
    (subst (λ t. Going true first to (record s { talk = t; due = None; behind = missed v })) (sym is)
    (going_read true first now s pass link faults above v h due kept looked sent.0 sent.1))
tells_on first now s pass link faults above v after (Err (end.Lagged oldest)) h due kept asks looked (lagged, same) =
    let to : Stage = stage pass link faults now.log in
    let none : frames (told s.talk v) ≡ [] = ap frames (missed_told s.talk v oldest lagged) in
    let unsent : SendsAll now.link link (frames (told s.talk v)) = subst (λ l. SendsAll now.link l (frames (told s.talk v))) (sym (ap {A = Wire} (λ w. w.link) same)) (nothing_sent now.link (frames (told s.talk v)) none) in
    let more : now.faults ≤ faults = omega (arith, ap {A = Wire} (λ w. w.faults) same) in
    served_at first to (record s { talk = after_events v s.talk; due = None; behind = missed v }) (end.Lagged oldest) (going_read true first now s pass link faults above v h due kept looked unsent more) asks (λ told. lagged)
tells_on first now s pass link faults above v after (Err end.LinkFault) h due kept asks looked sends = tells_not first now s pass link faults above v end.LinkFault h due kept asks looked sends
tells_on first now s pass link faults above v after (Err end.NoMemory) h due kept asks looked sends = tells_not first now s pass link faults above v end.NoMemory h due kept asks looked sends
tells_on first now s pass link faults above v after (Err end.Closed) h due kept asks looked sends = absurd sends.2
tells_on first now s pass link faults above v after (Err (end.Truncated count)) h due kept asks looked sends = absurd sends.2
tells_on first now s pass link faults above v after (Err (end.Magic at)) h due kept asks looked sends = absurd sends.2
tells_on first now s pass link faults above v after (Err (end.TooLong at len)) h due kept asks looked sends = absurd sends.2
tells_on first now s pass link faults above v after (Err end.Stopped) h due kept asks looked sends = absurd sends.2
tells_on first now s pass link faults above v after (Err end.Exhausted) h due kept asks looked sends = absurd sends.2

-- ---- results

-- the session has ended as the result says
pub ends_as : {A : Type 0} (first now : Stage) (ok : A → Type 0) (r : Result A SessionEnd) (e : SessionEnd) → Served first now e → IsErrAnd r (λ x. x ≡ e) → GoesOn first now ok r
ends_as first now ok (Ok x) e h k = absurd k
ends_as first now ok (Err x) e h k = subst (Served first now) (sym k) h

-- ---- answering

-- the call was not taken
pub not_called : (first now : Stage) (s : Spot) (pass : Pass) (log : Log) (c : Call) (refusal : ActRefusal)
    → Going true first now s → (s.turns ≡ s.stops) ⊎ (s.turns ≡ suc s.stops) → Called now.pass pass c now.log log (Err refusal)
    → Served first (stage pass now.link now.faults log) (end_of_refusal refusal)
not_called first now s pass log c refusals.NoMemory h asks (saw, (patterns, grew)) =
    served_no_memory first (stage pass now.link now.faults log) s (going_no_further first now s pass now.faults log patterns h saw grew (omega arith)) asks
not_called first now s pass log c (refusals.Exhausted e) h asks (saw, most, (patterns, grew)) =
    served_at first (stage pass now.link now.faults log) s end.Exhausted (going_no_further first now s pass now.faults log patterns h saw grew (omega arith)) asks (λ told. most.0)

-- the reply was not sent
pub not_replied : (first now : Stage) (s : Spot) (pass : Pass) (link : Option LinkTold) (faults : ℕ) (log : Log) (m : Message) (rest : List Message) (g : Got) (patterns : List (List ℕ)) (e : SessionEnd)
    → Going true first now s → s.due ≡ None → s.stopping ≡ false → s.behind ≡ None → s.ahead ≡ m ∷ rest → (s.turns ≡ s.stops) ⊎ (s.turns ≡ suc s.stops)
    → Gave now.pass pass (call_of m) g patterns → Grew now.log log patterns
    → SendsPart now.link link (frames (replied s.talk m g)) × (now.faults ≤ faults) × IsSendEnd e now.faults faults
    → Served first (stage pass link faults log) e
not_replied first now s pass link faults log m rest g patterns e h due going kept ahead asks gave grew (part, more, is) =
    served_unsent first (stage pass link faults log) (record s { talk = after_reply m g s.talk; due = above_of (after_reply m g s.talk); ahead = rest }) now.faults e
    (going_answered false first now s pass link faults log m rest g patterns h due going kept ahead gave grew part more) h.risen is asks
