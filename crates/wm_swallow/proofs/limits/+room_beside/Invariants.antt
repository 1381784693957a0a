use Rattle.std.proofs.Common.{◌≡◌, ◌≤◌, ◌+◌}
use Rattle.wm_forest.specs.Counts.{con_count}
use Rattle.wm_forest.specs.Forest.{node_count}
use Rattle.wm_swallow.proofs.limits.+room_beside.Given as goal

abbrev pub decreases-room_beside : goal.decreases-room_beside
decreases-room_beside l = node_count l.row

abbrev pub decreases-loop-part : goal.decreases-loop-part
decreases-loop-part l = node_count l.row

-- the room that is left is for what is left of the row
abbrev pub invariant-loop-part : goal.invariant-loop-part
invariant-loop-part l = record {
  left : node_count l.row ≤ node_count l.fn.row;
  room : l.room + con_count l.fn.row ≡ l.fn.room + con_count l.row;
}
