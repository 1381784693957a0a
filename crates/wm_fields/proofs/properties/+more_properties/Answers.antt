use Rattle.std.proofs.Common.{◌≡◌, ◌<◌, length, refl, subst, arith}
use Rattle.std.specs.Prelude.{IfOk}
use Rattle.wm_fields.proofs.PropertyLemmas.{properties_more}
use Rattle.wm_fields.proofs.properties.+more_properties.Goals as goal

pub returns-in-Some : goal.returns-in-Some
returns-in-Some size c =
    let some : 0 < length c.args.text.now = grind (arith, c.if-is_empty.ensures) in
    let few : 0 < c.args.most = grind (arith, c.if-most-eq0.false) in
    subst (λ all. IfOk c.more_properties.result (λ given. given ≡ all))
    (properties_more c.args.most c.args.given c.in-Some.given c.args.text.now c.in-Some.rest.now few some (rw (← c.in_ok-given.ensures, c.in-Some.is) refl))
    c.more_properties.ensures
