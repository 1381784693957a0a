use Rattle.std.proofs.Common.{ap, ◌∙◌}
use Rattle.wm_history.specs.declared.look.View.TheVariants as views
use Rattle.wm_core.proofs.StandsLemmas.{wants_seen}
use Rattle.wm_core.proofs.desk.Desk.see_wants.Goals as goal

pub returns : goal.returns
returns c = λ start history s.
    let told =
    wants_seen c.args.self.now start history s c.args.who c.args.serial c.args.kill c.deref.result.now c.in_ok-found.found.items (c.deref.ensures.value ∙ c.in_ok-windows.ensures) c.in_ok-found.ensures in
    ap (λ z. views.Wants z) (c.of.ensures ∙ told)
