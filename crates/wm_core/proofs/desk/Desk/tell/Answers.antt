use Rattle.std.proofs.Common.{◌≡◌, ◌∙◌, None, false, ap}
use Rattle.wm_core.specs.DeskValue.{DeskValue}
use Rattle.wm_history.specs.Events.{later_events}
use Rattle.wm_core.proofs.StepLemmas.{taken}
use Rattle.wm_core.proofs.desk.Desk.tell.Goals as goal

pub returns-in-Ok : goal.returns-in-Ok
returns-in-Ok c = λ entry is.
    let d = c.args.self.now in
    let later : c.in-Ok.later.items ≡ later_events d.mode d.stopped None false c.args.event = c.in-Ok.ensures ∙ ap (λ (d : DeskValue). later_events d.mode d.stopped None false c.args.event) c.self.view_is in
    taken _ _ _ _ (c.pass.ensures entry c.args.event is later)
