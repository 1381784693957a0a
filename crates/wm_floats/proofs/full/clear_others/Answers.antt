use Rattle.std.proofs.Common.{◌≡◌, ◌∙◌, None, Some, sym, arith, rules}
use Rattle.std.proofs.lemmas.Grind.{common_steps}
use Rattle.wm_floats.proofs.FullLemmas.{none_left, one_less}
use Rattle.wm_floats.specs.Fullscreen.{full_in}
use Rattle.wm_floats.proofs.full.clear_others.Goals as goal

pub loop-other-smaller : goal.loop-other-smaller
loop-other-smaller c =
    let found : full_in c.args.w c.args.con c.loop-other.t.nodes ≡ Some c.in-Some.other = first_of (search rules, grind (arith, common_steps)) in
    (one_less c.args.w c.args.con c.in-Some.other c.loop-other.t c.set_full.new.t c.loop-other.invariant.0 found c.set_full.ensures.tree).1

pub loop-other-preserved : goal.loop-other-preserved
loop-other-preserved c =
    let found : full_in c.args.w c.args.con c.loop-other.t.nodes ≡ Some c.in-Some.other = first_of (search rules, grind (arith, common_steps)) in
    let k = one_less c.args.w c.args.con c.in-Some.other c.loop-other.t c.set_full.new.t c.loop-other.invariant.0 found c.set_full.ensures.tree in
    (c.set_full.ensures.sound c.loop-other.invariant.0, k.0 ∙ c.loop-other.invariant.1)

pub returns-clause-made : goal.returns-clause-made
returns-clause-made c =
    let none : full_in c.args.w c.args.con c.loop-other.t.nodes ≡ None = first_of (search rules, grind (arith, common_steps)) in
    record { tree = sym (none_left c.args.w c.args.con c.loop-other.t none) ∙ c.loop-other.invariant.1; sound = λ s. c.loop-other.invariant.0 }
