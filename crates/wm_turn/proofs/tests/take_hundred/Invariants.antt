use Rattle.std.proofs.Common.{◌≡◌, ◌≤◌, false}
use Rattle.wm_turn.proofs.tests.take_hundred.Given as goal

-- the seat is the same, and has no turn
abbrev pub invariant-loop-step : goal.invariant-loop-step
invariant-loop-step g l =
    (l.seat.door ≡ l.fn.turnstile.door) × (l.seat.turn ≡ false) × (l.seat.parts ≡ l.fn.seat.parts) × (l.done ≤ l.step)
