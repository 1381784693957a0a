use Rattle.std.proofs.Common.{◌∙◌, ap, sym, None, Some}
use Rattle.wm_fields.proofs.PropertyLemmas.{window_is}
use Rattle.wm_fields.proofs.properties.window_properties.Goals as goal

pub returns-in_ok-props-in-Some : goal.returns-in_ok-props-in-Some
returns-in_ok-props-in-Some c =
    ap (λ p. Some p) c.in_ok-props-in-Some.ensures
    ∙ sym (window_is c.args.text.now c.none.result (Some c.in-Some.given) c.none.ensures (sym c.in-Some.is ∙ c.in_ok-given.ensures))

pub returns-in-None : goal.returns-in-None
returns-in-None c = sym (window_is c.args.text.now c.none.result None c.none.ensures (sym c.in-None.is ∙ c.in_ok-given.ensures))
