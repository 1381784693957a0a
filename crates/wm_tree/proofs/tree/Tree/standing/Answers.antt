use Rattle.std.proofs.Common.{◌≡◌, Some, arith, rules}
use Rattle.std.proofs.lemmas.Grind.{common_steps}
use Rattle.wm_forest.specs.declared.part.NodeKind.TheVariants.{Space}
use Rattle.wm_forest.specs.Forest.{con, end}
use Rattle.wm_forest.specs.Look.{only}
use Rattle.wm_forest.specs.Spot.{spot_in, top}
use Rattle.wm_tree.proofs.StandingLemmas.{space_stands}
use Rattle.wm_tree.proofs.tree.Tree.standing.Goals as goal

pub returns-in-Space : goal.returns-in-Space
returns-in-Space c =
    let cell = c.in_ok-cell.cell.now in
    let nodes = c.args.self.now.nodes in
    let node : only c.args.con nodes ≡ con cell.part cell.kids cell.floats end = first_of (search rules, grind (arith, common_steps)) in
    let kind : cell.part.kind ≡ Space c.in-Space.part = first_of (search rules, grind (arith, common_steps)) in
    let stands : spot_in top c.args.con nodes ≡ Some c.in_ok-cell.spot = first_of (search rules, grind (arith, common_steps)) in
    space_stands c.args.con nodes cell.part c.in-Space.part cell.kids cell.floats c.in_ok-cell.spot node kind stands
