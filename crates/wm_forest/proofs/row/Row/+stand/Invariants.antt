use Rattle.std.proofs.Common.{◌≡◌, ◌≤◌}
use Rattle.wm_forest.specs.Forest.{node_count}
use Rattle.wm_forest.specs.Look.{has, only}
use Rattle.wm_forest.specs.Spot.{spot_in}
use Rattle.wm_forest.proofs.row.Row.+stand.Given as goal

abbrev pub decreases-stand : goal.decreases-stand
decreases-stand l = node_count l.self.now

-- the node in what is left of the row is the node in the row, and stands there
abbrev pub invariant-loop-left : goal.invariant-loop-left
invariant-loop-left l = record {
  left : node_count l.left ≤ node_count l.self;
  there : has l.id l.left ≡ has l.id l.self;
  node : only l.id l.left ≡ only l.id l.self;
  spot : spot_in l.row l.id l.left ≡ spot_in l.row l.id l.self;
}
