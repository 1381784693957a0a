use Rattle.std.proofs.Common.{◌≡◌, ◌+◌, ◌*◌, ◌≤◌}
use Rattle.std.specs.Option.{option_or}
use Rattle.wm_changes.specs.Differing.{last_of, row_windows}
use Rattle.wm_changes.specs.Facts.{IsNarrow}
use Rattle.wm_forest.specs.Forest.{node_count}
use Rattle.wm_changes.proofs.windows.+find.Given as goal

abbrev pub decreases-find : goal.decreases-find
decreases-find l = 2 * node_count l.row.row

abbrev pub decreases-find_node : goal.decreases-find_node
decreases-find_node l = 2 * (node_count l.node.kids + node_count l.node.floats) + 1

-- that of the rest, or else the one so far, is that of all
abbrev pub invariant-find-loop-node : goal.invariant-find-loop-node
invariant-find-loop-node l = record {
  left : node_count l.left.row ≤ node_count l.fn.row.row;
  narrow : IsNarrow l.left.row;
  last : option_or (last_of l.id (row_windows l.left)) l.found ≡ last_of l.id (row_windows l.fn.row);
}

abbrev pub decreases-find-loop-node : goal.decreases-find-loop-node
decreases-find-loop-node l = node_count l.left.row
