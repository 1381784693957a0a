use Rattle.std.proofs.Common.{◌≡◌, ◌+◌, ◌*◌, ◌≤◌}
use Rattle.wm_changes.specs.Differing.{row_windows}
use Rattle.wm_changes.specs.Facts.{IsNarrow, put_windows}
use Rattle.wm_forest.specs.Forest.{node_count}
use Rattle.wm_changes.proofs.windows.+gather.Given as goal

abbrev pub decreases-gather : goal.decreases-gather
decreases-gather l = 2 * node_count l.row.row

abbrev pub decreases-gather_node : goal.decreases-gather_node
decreases-gather_node l = 2 * (node_count l.node.kids + node_count l.node.floats) + 1

-- those of the rest, put in behind those so far, give all
abbrev pub invariant-gather-loop-node : goal.invariant-gather-loop-node
invariant-gather-loop-node l = record {
  left : node_count l.left.row ≤ node_count l.fn.row.row;
  narrow : IsNarrow l.left.row;
  put : put_windows (row_windows l.left) l.map.entries ≡ put_windows (row_windows l.fn.row) l.initial.map.entries;
}

abbrev pub decreases-gather-loop-node : goal.decreases-gather-loop-node
decreases-gather-loop-node l = node_count l.left.row
