use Rattle.std.proofs.Common.{◌≡◌, true, false, refl, sym, ap, ◌∙◌}
use Rattle.wm_txn.specs.History as commits
use Rattle.wm_history.specs.Act.{Ack}
use Rattle.wm_core.specs.DeskValue.{DeskValue, StandsFrom}
use Rattle.wm_history.specs.Effect.{Judge, ack_said, telling}
use Rattle.wm_history.specs.History.{Entry, done_by}
use Rattle.wm_history.specs.Windows.{is_window}
use Rattle.wm_history.specs.declared.step.Answer.{Answer}
use Rattle.wm_core.proofs.StandsLemmas.{answered, stands_told, there_by}
use Rattle.wm_core.proofs.desk.Desk.ack.Goals as goal

-- no window of the caller, so nothing changes
pub returns-then-not-is_window : goal.returns-then-not-is_window
returns-then-not-is_window c =
    let not_its : is_window c.args.self.now.tree c.args.who c.args.con ≡ false = sym c.is_window.ensures.value ∙ c.if-not-is_window.true in
    c.stay.ensures (record { who = c.args.who; act = Ack c.args.con c.args.serial }) (rw not_its refl)

-- the transactions are told the acknowledgement, and answer it
pub returns : goal.returns
returns c =
    let i = c.self.inside in
    let d : DeskValue = record { plan = i.plan; steps = i.steps; tree = i.tree; txn = i.txn; mode = i.mode; stopped = i.stopped; events = i.events; kills = i.kills.entries } in
    let entry : Entry = record { who = c.args.who; act = Ack c.args.con c.args.serial } in
    let said : Judge → Answer = λ judge. ack_said (judge c.args.con c.args.serial) in
    let its : is_window d.tree c.args.who c.args.con ≡ true = rw (← c.self.view_is) at (sym c.is_window.ensures.value ∙ c.if-not-is_window.false) in
    let here : done_by d.plan.env d.mode d.tree entry ≡ telling (commits.Acked c.args.con c.args.serial) said d.tree = rw its refl in
    record {
      there = rw (← c.self.view_is) (c.ack_said.ensures ∙ (ap ack_said c.ack-acked.ensures.there ∙ there_by d entry (telling (commits.Acked c.args.con c.args.serial) said d.tree) here));
      answer = λ start history s.
          let stood : StandsFrom start d history = rw (← c.self.view_is) at s in
          c.ack_said.ensures ∙ (ap ack_said (c.ack-acked.ensures.answer _ _ stood.commits) ∙ answered d start history stood entry (telling (commits.Acked c.args.con c.args.serial) said d.tree) here);
      stands = λ start history s.
          let stood : StandsFrom start d history = rw (← c.self.view_is) at s in
          stands_told d start history stood entry (commits.Acked c.args.con c.args.serial) said c.ack-acked.new.self here (λ v b. refl) (λ v. refl) (c.ack-acked.ensures.stands _ _ stood.commits);
      plan = rw (← c.self.view_is) refl;
      count = rw (← c.self.view_is) refl;
    }
