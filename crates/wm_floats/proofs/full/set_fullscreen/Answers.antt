use Rattle.std.proofs.Common.{◌≡◌, Some, true, arith, rules}
use Rattle.std.proofs.lemmas.Grind.{common_steps}
use Rattle.wm_floats.proofs.FullLemmas.{alone_kept}
use Rattle.wm_tree.specs.TreeValue.{workspace_of}
use Rattle.wm_floats.proofs.full.set_fullscreen.Goals as goal

pub returns-then-switched-clause-alone : goal.returns-then-switched-clause-alone
returns-then-switched-clause-alone c = λ h.
    let space : workspace_of c.args.t.now c.args.con ≡ Some c.in_ok-part.field-0.space = first_of (search rules, grind (arith, common_steps)) in
    rw space (alone_kept c.args.con (Some c.in_ok-part.field-0.space) true c.clear_others.new.t c.set_full.new.t c.set_full.ensures.tree c.clear_others.ensures.alone)
