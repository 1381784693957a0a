use Rattle.std.proofs.Common.{◌≡◌, ◌++◌, take}
use Rattle.wm_kept.proofs.above.copy_onto.Given as goal

-- the events so far
abbrev pub invariant-loop-event : goal.invariant-loop-event
invariant-loop-event l = l.copies.items ≡ l.fn.copies.items ++ take l.event-index l.events
