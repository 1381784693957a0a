use Rattle.std.proofs.Common.{◌≤◌}
use Rattle.wm_book.proofs.tests.race.are_in_order.Given as goal

-- no more are counted than were looked at
abbrev pub invariant-loop-place : goal.invariant-loop-place
invariant-loop-place l = l.count ≤ l.place
