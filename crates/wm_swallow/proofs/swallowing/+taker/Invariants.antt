use Rattle.std.proofs.Common.{◌≡◌, ◌≤◌}
use Rattle.wm_swallow.specs.Swallowing.{takes_at}
use Rattle.wm_forest.specs.Forest.{node_count}
use Rattle.wm_swallow.proofs.swallowing.+taker.Given as goal

abbrev pub decreases-taker : goal.decreases-taker
decreases-taker l = node_count l.row

abbrev pub decreases-loop-part : goal.decreases-loop-part
decreases-loop-part l = node_count l.row

-- what is found in what is left of the row is what is found in the row
abbrev pub invariant-loop-part : goal.invariant-loop-part
invariant-loop-part l = record {
  left : node_count l.row ≤ node_count l.fn.row;
  found : takes_at l.props l.row ≡ takes_at l.props l.fn.row;
}
