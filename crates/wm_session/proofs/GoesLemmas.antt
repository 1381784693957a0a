-- What a call of the door does to how far a session is.
use Rattle.std.proofs.Common.{◌≡◌, ◌∙◌, refl, ap, sym, subst, ℕ, suc, Bool, List, [], ◌∷◌, ◌++◌, length, None, Some, IsSomeAnd}
use Rattle.wm_history.specs.Act.{Act}
use Rattle.wm_history.specs.History.{Entry, History, answer, opening_of, stopped}
use Rattle.wm_history.specs.Look.{look}
use Rattle.wm_core.specs.Passes.{Looked, Pass, Saw, Took}
use Rattle.wm_core.specs.declared.asked.Asked.TheVariants as asked
use Rattle.wm_history.specs.declared.look.Query.{Query}
use Rattle.wm_history.specs.declared.look.Query.TheVariants as query
use Rattle.wm_history.specs.declared.look.View.{View}
use Rattle.wm_history.specs.declared.step.Answer.{Answer}
use Rattle.wm_frames.specs.declared.message.Message.{Message}
use Rattle.wm_layouts.specs.declared.plan.Plan.{Plan}
use Rattle.wm_talk.specs.Calls.{call_of}
use Rattle.wm_talk.specs.declared.calls.Call.TheVariants as call
use Rattle.wm_talk.specs.declared.got.Got.TheVariants as got
use Rattle.wm_turn.specs.declared.view.Mark.TheVariants.{Wrote, Read}
use Rattle.wm_session.specs.Places.{entry_at, refused_at, refused_by}
use Rattle.wm_session.specs.Serving.{Goes}
use Rattle.wm_session.specs.Walk.{IsFree, IsStepOf, Walk, answered_by, asked_stop, events_above, events_read, unasked}
use Rattle.wm_session.proofs.WalkLemmas.{begins_before, begins_more, begins_same, entry_later, walks_asked, walks_later, walks_looked, walks_none, walks_read, walks_wrote}

pub goes_first : (p : Pass) → Goes p p [] (unasked []) [] 0
goes_first p = record {
  marks = [];
  pass = refl;
  begins = begins_same p.seen;
  walks = λ plan e. walks_none (opening_of plan) p.caller p.seen;
  refused_is = λ later b. refl;
  stops_are = refl;
}

pub goes_saw : (first now new : Pass) (given : List Message) (w : Walk) (refused : List (List ℕ)) (stops : ℕ)
    → Goes first now given w refused stops → Saw now new → Goes first new given w refused stops
goes_saw first now new given w refused stops g s = record {
  marks = g.marks;
  pass = s.pass ∙ ap {A = Pass} (λ p. record p { seen = new.seen }) g.pass;
  begins = begins_more first.seen now.seen new.seen g.begins s.begins;
  walks = λ plan e. walks_later (opening_of plan) first.caller now.seen new.seen given g.marks w s.begins (g.walks plan e);
  refused_is = λ later b. g.refused_is later (begins_more now.seen new.seen later s.begins b);
  stops_are = g.stops_are;
}

opening_as : (first now : Pass) (given : List Message) (w : Walk) (refused : List (List ℕ)) (stops : ℕ) → Goes first now given w refused stops
    → (plan : Plan) → first.opening ≡ Some plan → now.opening ≡ Some plan
opening_as first now given w refused stops g plan e = ap {A = Pass} (λ p. p.opening) g.pass ∙ e

-- the step of the next message was taken
pub goes_took : (first now new : Pass) (given : List Message) (w : Walk) (refused : List (List ℕ)) (stops : ℕ) (m : Message) (act : Act) (said : Answer)
    → Goes first now given w refused stops → IsFree w → IsStepOf (call_of m) act → Took now new act said
    → Goes first new (given ++ m ∷ []) (answered_by m (got.Answer said) w) (refused ++ refused_by act) stops
goes_took first now new given w refused stops m act said g free step t =
    let entry : Entry = record { who = now.caller; act = act } in
    let seen : History = entry ∷ t.before in
    let old = begins_more first.seen now.seen t.before g.begins t.begins in
    let to : Pass = record now { seen = seen; mine = Wrote (length t.before) ∷ now.mine } in
    let goes : Goes first to (given ++ m ∷ []) (answered_by m (got.Answer said) w) (refused ++ refused_by act) stops = record {
      marks = Wrote (length t.before) ∷ g.marks;
      pass = ap {A = Pass} (λ p. record p { seen = seen; mine = Wrote (length t.before) ∷ p.mine }) g.pass;
      begins = begins_more first.seen t.before seen old (entry ∷ [], refl);
      walks = λ plan e.
          let is : said ≡ answer (opening_of plan) t.before entry =
          subst (λ o. IsSomeAnd o (λ p. said ≡ answer (opening_of p) t.before entry)) (opening_as first now given w refused stops g plan e) t.answer in
          walks_wrote (opening_of plan) first.caller now.seen given g.marks w m (got.Answer said) entry t.before (g.walks plan e) free t.begins step (ap (λ a. got.Answer a) is);
      refused_is = λ later b.
          ap (λ rs. rs ++ refused_at (entry_at (length t.before) later)) (g.refused_is later (begins_more now.seen t.before later t.begins (begins_before entry t.before later b)))
          ∙ ap (λ o. refused ++ refused_at o) (entry_later entry t.before later b);
      stops_are = g.stops_are;
    } in
    subst (λ p. Goes first p (given ++ m ∷ []) (answered_by m (got.Answer said) w) (refused ++ refused_by act) stops) (sym t.pass) goes

-- the next message looked
pub goes_looked : (first now new : Pass) (given : List Message) (w : Walk) (refused : List (List ℕ)) (stops : ℕ) (m : Message) (q : Query) (v : View)
    → Goes first now given w refused stops → IsFree w → call_of m ≡ call.Look q → events_above q ≡ None
    → Looked now new (asked.Query q) (λ start seen. v ≡ look start seen now.caller q)
    → Goes first new (given ++ m ∷ []) (answered_by m (got.View v) w) refused stops
goes_looked first now new given w refused stops m q v g free asks none l =
    let seen : History = new.seen in
    let to : Pass = record now { seen = seen; mine = Read (asked.Query q) (length seen) ∷ now.mine } in
    let goes : Goes first to (given ++ m ∷ []) (answered_by m (got.View v) w) refused stops = record {
      marks = Read (asked.Query q) (length seen) ∷ g.marks;
      pass = ap {A = Pass} (λ p. record p { seen = seen; mine = Read (asked.Query q) (length seen) ∷ p.mine }) g.pass;
      begins = begins_more first.seen now.seen seen g.begins l.begins;
      walks = λ plan e.
          let is : v ≡ look (opening_of plan) seen now.caller q =
          subst (λ o. IsSomeAnd o (λ p. v ≡ look (opening_of p) seen now.caller q)) (opening_as first now given w refused stops g plan e) l.answer in
          walks_looked (opening_of plan) first.caller now.seen seen given g.marks w m (got.View v) q (g.walks plan e) free l.begins asks none
          (ap (λ x. got.View x) (is ∙ ap (λ who. look (opening_of plan) seen who q) (ap {A = Pass} (λ p. p.caller) g.pass)));
      refused_is = λ later b. g.refused_is later (begins_more now.seen seen later l.begins b);
      stops_are = g.stops_are;
    } in
    subst (λ p. Goes first p (given ++ m ∷ []) (answered_by m (got.View v) w) refused stops) (sym l.pass) goes

-- events were read
pub goes_read : (first now new : Pass) (given : List Message) (w : Walk) (refused : List (List ℕ)) (stops : ℕ) (above : ℕ) (v : View)
    → Goes first now given w refused stops → w.due ≡ Some above → w.behind ≡ None
    → Looked now new (asked.Query (query.Events above)) (λ start seen. v ≡ look start seen now.caller (query.Events above))
    → Goes first new given (events_read v w) refused stops
goes_read first now new given w refused stops above v g due kept l =
    let q : Query = query.Events above in
    let seen : History = new.seen in
    let to : Pass = record now { seen = seen; mine = Read (asked.Query q) (length seen) ∷ now.mine } in
    let goes : Goes first to given (events_read v w) refused stops = record {
      marks = Read (asked.Query q) (length seen) ∷ g.marks;
      pass = ap {A = Pass} (λ p. record p { seen = seen; mine = Read (asked.Query q) (length seen) ∷ p.mine }) g.pass;
      begins = begins_more first.seen now.seen seen g.begins l.begins;
      walks = λ plan e.
          let is : v ≡ look (opening_of plan) seen now.caller q =
          subst (λ o. IsSomeAnd o (λ p. v ≡ look (opening_of p) seen now.caller q)) (opening_as first now given w refused stops g plan e) l.answer in
          walks_read (opening_of plan) first.caller now.seen seen given g.marks w v above (g.walks plan e) due kept l.begins
          (is ∙ ap (λ who. look (opening_of plan) seen who q) (ap {A = Pass} (λ p. p.caller) g.pass));
      refused_is = λ later b. g.refused_is later (begins_more now.seen seen later l.begins b);
      stops_are = g.stops_are;
    } in
    subst (λ p. Goes first p given (events_read v w) refused stops) (sym l.pass) goes

-- it was asked whether the desk is to stop
pub goes_asked : (first now new : Pass) (given : List Message) (w : Walk) (refused : List (List ℕ)) (stops : ℕ) (says : Bool)
    → Goes first now given w refused stops → IsFree w
    → Looked now new asked.Stopped (λ start seen. says ≡ stopped start seen)
    → Goes first new given (asked_stop says w) refused (suc stops)
goes_asked first now new given w refused stops says g free l =
    let seen : History = new.seen in
    let to : Pass = record now { seen = seen; mine = Read asked.Stopped (length seen) ∷ now.mine } in
    let goes : Goes first to given (asked_stop says w) refused (suc stops) = record {
      marks = Read asked.Stopped (length seen) ∷ g.marks;
      pass = ap {A = Pass} (λ p. record p { seen = seen; mine = Read asked.Stopped (length seen) ∷ p.mine }) g.pass;
      begins = begins_more first.seen now.seen seen g.begins l.begins;
      walks = λ plan e.
          let is : says ≡ stopped (opening_of plan) seen =
          subst (λ o. IsSomeAnd o (λ p. says ≡ stopped (opening_of p) seen)) (opening_as first now given w refused stops g plan e) l.answer in
          walks_asked (opening_of plan) first.caller now.seen seen given g.marks w says (g.walks plan e) free l.begins is;
      refused_is = λ later b. g.refused_is later (begins_more now.seen seen later l.begins b);
      stops_are = ap suc g.stops_are;
    } in
    subst (λ p. Goes first p given (asked_stop says w) refused (suc stops)) (sym l.pass) goes
