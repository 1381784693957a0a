use Rattle.std.proofs.Common.{◌≡◌, ◌+◌, drop}
use Rattle.wm_swallow.specs.SavedRows.{rows, size}
use Rattle.wm_swallow.proofs.limits.+room.Given as goal

-- there is as much room for those that are left as there was for all
abbrev pub invariant-room_after-loop-node : goal.invariant-room_after-loop-node
invariant-room_after-loop-node l = l.left + size (rows l.nodes) ≡ l.fn.room + size (rows (drop l.node-index l.nodes))
