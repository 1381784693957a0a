use Rattle.std.proofs.Common.{◌≡◌, ◌≤◌}
use Rattle.wm_focus.specs.Walks.{climbed}
use Rattle.wm_forest.specs.Forest.{node_count}
use Rattle.wm_focus.proofs.rungs.+climb.Given as goal

abbrev pub decreases-climb : goal.decreases-climb
decreases-climb l = node_count l.row

abbrev pub decreases-loop-part : goal.decreases-loop-part
decreases-loop-part l = node_count l.row

-- what is found in what is left of the row is what is found in the row
abbrev pub invariant-loop-part : goal.invariant-loop-part
invariant-loop-part l = record {
  left : node_count l.row ≤ node_count l.fn.row;
  found : climbed l.d l.con l.row ≡ climbed l.d l.con l.fn.row;
}
