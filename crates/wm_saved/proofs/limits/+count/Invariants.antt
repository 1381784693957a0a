use Rattle.std.proofs.Common.{◌≡◌, ◌+◌, drop, length}
use Rattle.wm_saved.specs.Containers.{containers}
use Rattle.wm_saved.proofs.limits.+count.Given as goal

-- there is as much room for those that are left as there was for all
abbrev pub invariant-room_behind-loop-node : goal.invariant-room_behind-loop-node
invariant-room_behind-loop-node l = l.left + length (containers l.nodes) ≡ l.fn.room + length (containers (drop l.node-index l.nodes))
