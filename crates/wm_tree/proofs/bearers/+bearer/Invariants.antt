use Rattle.std.proofs.Common.{◌≡◌, ◌≤◌}
use Rattle.wm_tree.specs.Marks.{bearer}
use Rattle.wm_forest.specs.Forest.{node_count}
use Rattle.wm_tree.proofs.bearers.+bearer.Given as goal

abbrev pub decreases-bearer : goal.decreases-bearer
decreases-bearer l = node_count l.row

abbrev pub decreases-loop-part : goal.decreases-loop-part
decreases-loop-part l = node_count l.row

-- what is found in what is left of the row is what is found in the row
abbrev pub invariant-loop-part : goal.invariant-loop-part
invariant-loop-part l = record {
  left : node_count l.row ≤ node_count l.fn.row;
  found : bearer l.keep l.name l.row ≡ bearer l.keep l.name l.fn.row;
}
