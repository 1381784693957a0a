use Rattle.std.proofs.Common.{◌≡◌, ◌∙◌, ap, ◌+◌, ℕ, List, ◌∷◌, ◌++◌, Bool, refl, subst, sym}
use Rattle.wm_kept.specs.Log.{kept_of}
use Rattle.wm_core.specs.DeskValue.{DeskValue, StandsFrom}
use Rattle.wm_history.specs.Effect.{mode_after, passing}
use Rattle.wm_history.specs.Events.{IsToldOn, later_events}
use Rattle.wm_history.specs.History.{done_by}
use Rattle.wm_core.proofs.StandsLemmas.{answered, stands_passed, there_by}
use Rattle.wm_core.proofs.desk.Desk.pass.Goals as goal

-- a step that leaves the tree is counted, and what is beside it is told
pub returns : goal.returns
returns c = λ entry event is told.
    let i = c.self.inside in
    let d : DeskValue = record { plan = i.plan; steps = i.steps; tree = i.tree; txn = i.txn; mode = i.mode; stopped = i.stopped; events = i.events; kills = i.kills.entries } in
    let e = passing c.args.answer d.tree c.args.set c.args.stops event in
    let here : done_by d.plan.env d.mode d.tree entry ≡ e = rw (← c.self.view_is) at is in
    let later : c.args.later.items ≡ later_events d.mode d.stopped c.args.set c.args.stops event = rw (← c.self.view_is) at told in
    let logged : IsToldOn d.events (later_events d.mode d.stopped c.args.set c.args.stops event) c.push_all.new.self = λ all was. c.push_all.ensures.history all was ∙ ap (λ bodies. kept_of (all ++ bodies)) later in
    record {
      there = rw (← c.self.view_is) (there_by d entry e here);
      answer = λ start history s. answered d start history (rw (← c.self.view_is) at s) entry e here;
      stands = λ start history s.
          let After : List ℕ → Bool → Type 0 = λ m b. StandsFrom start (record { plan = d.plan; steps = d.steps + 1; tree = d.tree; txn = d.txn; mode = m; stopped = b; events = c.push_all.new.self; kills = d.kills }) (entry ∷ history) in
          subst (λ m. After m c.either-self-inside.result) (sym c.set_mode.ensures) (subst (After (mode_after c.args.set d.mode)) (sym c.either-self-inside.ensures)
          (stands_passed d start history (rw (← c.self.view_is) at s) entry c.args.answer c.args.set c.args.stops event c.push_all.new.self here logged));
      plan = rw (← c.self.view_is) refl;
      count = rw (← c.self.view_is) refl;
    }
