use Rattle.std.proofs.Common.{◌+◌, ◌*◌, ◌≤◌}
use Rattle.wm_changes.specs.declared.differing.Differing.{Differing}
use Rattle.wm_changes.specs.Differing.{ArePutIn, row_windows}
use Rattle.wm_changes.specs.Facts.{IsNarrow}
use Rattle.wm_forest.specs.Forest.{node_count}
use Rattle.wm_changes.proofs.differing.+both.Given as goal

abbrev pub decreases-gather_both : goal.decreases-gather_both
decreases-gather_both l = 2 * (node_count l.old.row + node_count l.new.row)

abbrev pub decreases-gather_pair : goal.decreases-gather_pair
decreases-gather_pair l = 2 * (node_count l.old.kids + node_count l.old.floats + (node_count l.new.kids + node_count l.new.floats)) + 1

-- where those of the rest are put in behind those so far, all are
abbrev pub invariant-gather_both-loop-a : goal.invariant-gather_both-loop-a
invariant-gather_both-loop-a l = record {
  left : node_count l.left.row ≤ node_count l.fn.old.row;
  right : node_count l.right.row ≤ node_count l.fn.new.row;
  narrow_left : IsNarrow l.left.row;
  narrow_right : IsNarrow l.right.row;
  put : (d : Differing) → ArePutIn l.before.tree.now l.after.tree.now (row_windows l.left) (row_windows l.right) l.found d → ArePutIn l.before.tree.now l.after.tree.now (row_windows l.fn.old) (row_windows l.fn.new) l.initial.found d;
}

abbrev pub decreases-gather_both-loop-a : goal.decreases-gather_both-loop-a
decreases-gather_both-loop-a l = node_count l.left.row + node_count l.right.row
