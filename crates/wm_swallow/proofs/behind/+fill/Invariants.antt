use Rattle.std.proofs.Common.{◌≡◌, ◌≤◌, ◌+◌, ◌*◌, ◌++◌, length}
use Rattle.wm_swallow.specs.Behind.{behind_marks}
use Rattle.wm_swallow.specs.Limits.{different, is_held}
use Rattle.wm_swallow.specs.SavedRows.{all_marks, row_below, rows, size}
use Rattle.wm_swallow.proofs.behind.+fill.Given as goal

abbrev pub decreases-room_after_marks : goal.decreases-room_after_marks
decreases-room_after_marks l = 3 * size (rows l.nodes.now)

abbrev pub decreases-room_after_node : goal.decreases-room_after_node
decreases-room_after_node l = 3 * size (row_below l.node.now.kind) + 2

abbrev pub decreases-room_after_below : goal.decreases-room_after_below
decreases-room_after_below l = 3 * size (row_below l.kind.now) + 1

abbrev pub decreases-room_after_marks-loop-rest : goal.decreases-room_after_marks-loop-rest
decreases-room_after_marks-loop-rest l = length l.rest

-- the room that is left is for the marks that are left, before those behind
abbrev pub invariant-room_after_marks-loop-rest : goal.invariant-room_after_marks-loop-rest
invariant-room_after_marks-loop-rest l = record {
  few : size (rows l.rest) ≤ size (rows l.nodes);
  room :
      l.left + different (is_held l.tree.nodes) (all_marks (rows l.nodes) ++ behind_marks l.behind)
      ≡ l.fn.room + different (is_held l.tree.nodes) (all_marks (rows l.rest) ++ behind_marks l.behind);
}
