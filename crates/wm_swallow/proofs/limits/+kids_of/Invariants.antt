use Rattle.std.proofs.Common.{◌≡◌, ◌≤◌}
use Rattle.wm_forest.specs.Look.{has, only}
use Rattle.wm_forest.specs.Forest.{node_count}
use Rattle.wm_swallow.proofs.limits.+kids_of.Given as goal

abbrev pub decreases-kids_of : goal.decreases-kids_of
decreases-kids_of l = node_count l.row

abbrev pub decreases-loop-part : goal.decreases-loop-part
decreases-loop-part l = node_count l.row

-- the node in what is left of the row is the node in the row
abbrev pub invariant-loop-part : goal.invariant-loop-part
invariant-loop-part l = record {
  left : node_count l.row ≤ node_count l.fn.row;
  there : has l.id l.row ≡ has l.id l.fn.row;
  node : only l.id l.row ≡ only l.id l.fn.row;
}
