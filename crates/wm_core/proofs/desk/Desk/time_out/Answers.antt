use Rattle.std.proofs.Common.{refl}
use Rattle.wm_txn.specs.History as commits
use Rattle.wm_history.specs.Act.{Deadline}
use Rattle.wm_core.specs.DeskValue.{DeskValue, StandsFrom}
use Rattle.wm_history.specs.Effect.{telling}
use Rattle.wm_history.specs.History.{Entry}
use Rattle.wm_history.specs.declared.step.Answer.TheVariants.{Done}
use Rattle.wm_core.proofs.StandsLemmas.{answered, place, stands_told}
use Rattle.wm_core.proofs.desk.Desk.time_out.Goals as goal

-- the transactions are told the deadline
pub returns : goal.returns
returns c =
    let i = c.self.inside in
    let d : DeskValue = record { plan = i.plan; steps = i.steps; tree = i.tree; txn = i.txn; mode = i.mode; stopped = i.stopped; events = i.events; kills = i.kills.entries } in
    let entry : Entry = record { who = c.args.who; act = Deadline c.args.number } in
    let told = commits.Deadline c.args.number in
    record {
      there = refl;
      answer = λ start history s. answered d start history (rw (← c.self.view_is) at s) entry (telling told (λ judge. Done) d.tree) refl;
      stands = λ start history s.
          let stood : StandsFrom start d history = rw (← c.self.view_is) at s in
          stands_told d start history stood entry told (λ judge. Done) c.deadline.new.self refl (λ v b. refl) (λ v. refl) (c.deadline.ensures.stands _ _ (place d start history stood) stood.commits);
      plan = rw (← c.self.view_is) refl;
      count = rw (← c.self.view_is) refl;
    }
