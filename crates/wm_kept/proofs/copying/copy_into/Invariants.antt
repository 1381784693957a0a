use Rattle.std.proofs.Common.{◌≡◌, ◌++◌, take}
use Rattle.circular_buffer.specs.Buffer.{buffer}
use Rattle.wm_kept.proofs.copying.copy_into.Given as goal

-- the events so far
abbrev pub invariant-loop-event : goal.invariant-loop-event
invariant-loop-event l = l.copies ≡ buffer (l.fn.copies.items ++ take l.event-index l.events) l.fn.copies.capacity
