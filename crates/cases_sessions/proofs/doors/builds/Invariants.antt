use Rattle.std.proofs.Common.{◌≡◌, length}
use Rattle.cases_sessions.proofs.doors.builds.Given as goal

abbrev pub invariant-loop : goal.invariant-loop
invariant-loop l = length l.builds.items ≡ l.counter
