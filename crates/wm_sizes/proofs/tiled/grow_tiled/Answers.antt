use Rattle.std.proofs.Common.{◌≡◌, Some, arith, rules}
use Rattle.std.proofs.lemmas.Grind.{common_steps}
use Rattle.wm_sizes.proofs.FamilyLemmas.{rung_family}
use Rattle.wm_sizes.specs.Climbing.{rung_of, side_axis}
use Rattle.wm_sizes.proofs.tiled.grow_tiled.Goals as goal

pub share_anew-requires-clause-family : goal.share_anew-requires-clause-family
share_anew-requires-clause-family c =
    let found : rung_of (side_axis c.args.growth.side) c.args.con c.args.t.now ≡ Some c.in-Some.rung = first_of (search rules, grind (arith, common_steps)) in
    rung_family (side_axis c.args.growth.side) c.args.con c.args.t.now c.in-Some.rung c.requires found
