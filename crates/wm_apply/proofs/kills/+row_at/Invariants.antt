use Rattle.std.proofs.Common.{◌≡◌, ◌≤◌}
use Rattle.wm_apply.specs.Kills.{row_at}
use Rattle.wm_forest.specs.Forest.{node_count}
use Rattle.wm_apply.proofs.kills.+row_at.Given as goal

abbrev pub decreases-row_at : goal.decreases-row_at
decreases-row_at l = node_count l.row

abbrev pub decreases-loop-part : goal.decreases-loop-part
decreases-loop-part l = node_count l.row

-- what is found in what is left of the row is what is found in the row
abbrev pub invariant-loop-part : goal.invariant-loop-part
invariant-loop-part l = record {
  left : node_count l.row ≤ node_count l.fn.row;
  found : row_at l.con l.row ≡ row_at l.con l.fn.row;
}
