use Rattle.std.proofs.Common.{◌≡◌, length}
use Rattle.i3desk.proofs.doors.builds.Given as goal

abbrev pub invariant-loop : goal.invariant-loop
invariant-loop l = length l.builds.items ≡ l.counter
