use Rattle.std.proofs.Common.{◌≡◌, refl}
use Rattle.wm_core.specs.DeskValue.{DeskValue}
use Rattle.wm_history.specs.Effect.{refused}
use Rattle.wm_history.specs.History.{done_by}
use Rattle.wm_core.proofs.StandsLemmas.{answered, stands_counted, there_by}
use Rattle.wm_core.proofs.desk.Desk.stay.Goals as goal

-- a refused step is counted
pub returns : goal.returns
returns c = λ entry is.
    let i = c.self.inside in
    let d : DeskValue = record { plan = i.plan; steps = i.steps; tree = i.tree; txn = i.txn; mode = i.mode; stopped = i.stopped; events = i.events; kills = i.kills.entries } in
    let here : done_by d.plan.env d.mode d.tree entry ≡ refused c.args.answer d.tree = rw (← c.self.view_is) at is in
    record {
      there = rw (← c.self.view_is) (there_by d entry (refused c.args.answer d.tree) here);
      answer = λ start history s. answered d start history (rw (← c.self.view_is) at s) entry (refused c.args.answer d.tree) here;
      stands = λ start history s. stands_counted d start history (rw (← c.self.view_is) at s) entry c.args.answer here;
      plan = rw (← c.self.view_is) refl;
      count = rw (← c.self.view_is) refl;
    }
