use Rattle.std.proofs.Common.{◌≡◌, ◌+◌, length}
use Rattle.cases_sessions.proofs.doors.add_quiet.Given as goal

abbrev pub invariant-loop : goal.invariant-loop
invariant-loop g l = length l.doors.items ≡ length l.initial.doors.items + l.counter
