-- What a client's session did, once it has ended.
use Rattle.std.proofs.Common.{◌≡◌, ◌∙◌, refl, ap, sym, subst, ℕ, inl, true, false, List, [], ◌∷◌, ◌++◌, length, Option, None, Some, Err, IfSome}
use Rattle.wm_history.specs.Act as act
use Rattle.wm_history.specs.History.{Entry, History, Start, opening_of}
use Rattle.wm_core.specs.Passes.{Acts, Begins, Pass, Took}
use Rattle.wm_core.specs.declared.asked.Asked.{Asked}
use Rattle.wm_core.specs.declared.refusals.ActRefusal.{ActRefusal}
use Rattle.wm_core.specs.declared.refusals.ActRefusal.TheVariants as refusals
use Rattle.wm_history.specs.declared.step.Answer.{Answer}
use Rattle.wm_cut.specs.Lines.{lines_in}
use Rattle.wm_session.specs.Linked.{SinceBy}
use Rattle.wm_session.proofs.WalkLemmas.{begins_more, begins_same, entry_later}
use Rattle.wm_turn.specs.declared.view.Mark.{Mark}
use Rattle.wm_turn.specs.declared.view.Mark.TheVariants.{Wrote}
use Rattle.wm_clients.specs.Endings.{end_of_refusal, closes_windows}
use Rattle.wm_clients.specs.Served.{IsAsked, IsCause, Leaves, ServedClient, Stage, is_whole, stage}
use Rattle.wm_clients.specs.Serving.{Ends, Spot, walk_at}
use Rattle.wm_clients.specs.Walk.{FitsClient, Walk, walk}
use Rattle.wm_clients.specs.declared.ending.ClientEnd.{ClientEnd}
use Rattle.wm_clients.specs.declared.ending.ClientEnd.TheVariants as end
use Rattle.wm_clients.proofs.EndLemmas.{AreTurns, not_taken_by}
use Rattle.wm_clients.proofs.LineLemmas.{lines_now}

if_some : {A : Type 0} {P : A → Type 0} (o : Option A) → ((x : A) → o ≡ Some x → P x) → IfSome o P
if_some None h = tt
if_some (Some x) h = h x refl

-- a session that has ended is what its marks say, whatever its caller has seen since, with these marks behind them
served_by : (first now : Stage) (e : ClientEnd) (pass : Pass) (gone : List (Mark Asked)) → Ends first now e
    → Begins now.pass.seen pass.seen → pass ≡ record now.pass { seen = pass.seen; mine = gone ++ now.pass.mine }
    → ((received : List ℕ) (w : Walk) → IsCause e received first now w → IsCause e received first (stage pass now.link now.faults) w)
    → Leaves (closes_windows e) pass gone
    → ServedClient first (stage pass now.link now.faults) e
served_by first now e pass gone h begins is cause leaves =
    let s = h.spot in
    let g = h.going.goes in
    let to : Stage = stage pass now.link now.faults in
    record {
      marks = g.marks;
      gone = gone;
      received = s.received;
      turns = s.turns;
      pass = is ∙ ap {A = Pass} (λ p. record p { seen = pass.seen; mine = gone ++ p.mine }) g.pass;
      begins = begins_more first.pass.seen now.pass.seen pass.seen g.begins begins;
      served = if_some first.pass.opening (λ plan opened.
          let start : Start = opening_of plan in
          let walks = g.walks plan opened in
          let lines = lines_now s.received h.going.given s.pending h.going.cuts in
          let is : walk start first.pass.caller pass.seen (lines_in s.received) g.marks ≡ record (walk_at s h.going.told) { left = lines_in s.pending } =
          ap (λ ls. walk start first.pass.caller pass.seen ls g.marks) lines ∙ walks.is pass.seen (lines_in s.pending) begins in
          record {
            fit = λ later b. subst (λ ls. FitsClient start first.pass.caller later ls g.marks) (sym lines) (walks.fit later (lines_in s.pending) (begins_more now.pass.seen pass.seen later begins b));
            sent = subst (λ w. SinceBy (is_whole e) first.link now.link s.received w.told s.turns) (sym is) h.going.bytes;
            cause = subst (IsCause e s.received first to) (sym is) (cause s.received (record (walk_at s h.going.told) { left = lines_in s.pending }) (h.cause h.going.told));
          });
      asked = subst (IsAsked e s.turns) (sym g.stops_are) h.asks;
      leaves = leaves;
    }

-- the windows stay open
pub served_open : (first now : Stage) (e : ClientEnd) → Ends first now e → closes_windows e ≡ false → ServedClient first now e
served_open first now e h is =
    served_by first now e now.pass [] h (begins_same now.pass.seen) refl (λ received w c. c) (subst (λ b. Leaves b now.pass []) (sym is) refl)

-- the cause of an end at which the windows are closed stays its cause
cause_later : (e : ClientEnd) (first now : Stage) (pass : Pass) → closes_windows e ≡ true → (received : List ℕ) (w : Walk) → IsCause e received first now w → IsCause e received first (stage pass now.link now.faults) w
cause_later end.Closed first now pass is received w c = c
cause_later end.Truncated first now pass is received w c = c
cause_later (end.BadLine line) first now pass is received w c = c
cause_later end.Stopped first now pass is received w c = c
cause_later end.LinkFault first now pass is received w c = c
cause_later end.Exhausted first now pass is received w c = cc
cause_later end.NoMemory first now pass is received w c = c

-- the windows were closed
pub served_gone : (first now : Stage) (e : ClientEnd) (pass : Pass) (said : Answer) → Ends first now e → closes_windows e ≡ true → Took now.pass pass act.Gone said
    → ServedClient first (stage pass now.link now.faults) e
served_gone first now e pass said h is t =
    let entry : Entry = record { who = now.pass.caller; act = act.Gone } in
    let seen : History = entry ∷ t.before in
    let gone : List (Mark Asked) = Wrote (length t.before) ∷ [] in
    let to : Pass = record now.pass { seen = seen; mine = gone ++ now.pass.mine } in
    subst (λ p. ServedClient first (stage p now.link now.faults) e) (sym t.pass)
    (served_by first now e to gone h (begins_more now.pass.seen t.before seen t.begins (entry ∷ [], refl)) refl (cause_later e first now to is)
    (subst (λ b. Leaves b to gone) (sym is) (record { place = length t.before; mark = refl; entry = λ later b. entry_later entry t.before later b })))

-- as many receivings as questions, or one more
turns_of_end : (e : ClientEnd) (s : Spot) → IsAsked e s.turns s.stops → AreTurns s
turns_of_end end.Closed s asks = inl asks
turns_of_end end.Truncated s asks = inl asks
turns_of_end (end.BadLine line) s asks = asks
turns_of_end end.Stopped s asks = inl asks
turns_of_end end.LinkFault s asks = asks
turns_of_end end.Exhausted s asks = asks
turns_of_end end.NoMemory s asks = asks

refusal_is_open : (refusal : ActRefusal) → closes_windows (end_of_refusal refusal) ≡ false
refusal_is_open refusals.NoMemory = refl
refusal_is_open (refusals.Exhausted e) = refl

-- the windows were not closed
pub served_refused : (first now : Stage) (e : ClientEnd) (pass : Pass) (refusal : ActRefusal) → Ends first now e → Acts now.pass pass act.Gone (Err refusal)
    → ServedClient first (stage pass now.link now.faults) (end_of_refusal refusal)
served_refused first now e pass refusal h refused =
    served_open first (stage pass now.link now.faults) (end_of_refusal refusal)
    (not_taken_by (is_whole e) first now h.spot pass act.Gone refusal h.going (turns_of_end e h.spot h.asks) refused) (refusal_is_open refusal)
