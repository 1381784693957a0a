use Rattle.std.proofs.Common.{◌≡◌, ◌≤◌, ◌+◌}
use Rattle.wm_forest.specs.Counts.{mark_count}
use Rattle.wm_forest.specs.Forest.{node_count}
use Rattle.wm_swallow.proofs.limits.+room_beside_marks.Given as goal

abbrev pub decreases-room_beside_marks : goal.decreases-room_beside_marks
decreases-room_beside_marks l = node_count l.row

abbrev pub decreases-loop-part : goal.decreases-loop-part
decreases-loop-part l = node_count l.row

-- the room that is left is for what is left of the row
abbrev pub invariant-loop-part : goal.invariant-loop-part
invariant-loop-part l = record {
  left : node_count l.row ≤ node_count l.fn.row;
  room : l.room + mark_count l.fn.row ≡ l.fn.room + mark_count l.row;
}
