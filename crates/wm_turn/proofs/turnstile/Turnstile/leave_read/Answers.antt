use Rattle.wm_turn.proofs.Seating.{seated_read}
use Rattle.wm_turn.proofs.turnstile.Turnstile.leave_read.Goals as goal

pub invariant_of-seat : goal.invariant_of-seat
invariant_of-seat g c =
    seated_read c.args.question.now c.seat.inside.caller c.seat.inside.count c.seat.inside.place.me c.pass_on_read.new.place.me c.seat.invariant c.pass_on_read.ensures.passed

pub returns-clause-legal : goal.returns-clause-legal
returns-clause-legal g c = (invariant_of-seat g c).legal
