use Rattle.std.proofs.Common.{◌≡◌, ◌+◌}
use Rattle.wm_forest.specs.Counts.{row_length}
use Rattle.wm_swallow.proofs.limits.room_in.Given as goal

abbrev pub decreases-loop-part : goal.decreases-loop-part
decreases-loop-part l = row_length l.row

-- the room that is left is for what is left of the row
abbrev pub invariant-loop-part : goal.invariant-loop-part
invariant-loop-part l = record {
  room : l.room + row_length l.fn.row ≡ l.fn.room + row_length l.row;
}
