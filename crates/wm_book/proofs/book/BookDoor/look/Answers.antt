use Rattle.std.proofs.Common.{◌≡◌}
use Rattle.wm_history.specs.Look.{look}
use Rattle.wm_core.specs.declared.asked.Asked.TheVariants.{Query}
use Rattle.wm_book.proofs.SeatLemmas.{looked, saw, sees}
use Rattle.wm_book.proofs.book.BookDoor.look.Goals as goal

-- no memory, so nothing is told
pub returns-in_default-clause-looks : goal.returns-in_default-clause-looks
returns-in_default-clause-looks g c = saw c.args.seat.now c.enter-value.new.seat c.requires.ready.1 c.enter-value.ensures.seat c.enter-value.ensures.seen c.leave.new.seat c.leave.ensures.seat

pub returns-clause-looks : goal.returns-clause-looks
returns-clause-looks g c =
    looked c.args.seat.now c.enter-value.new.seat c.requires.ready.1 c.enter-value.ensures.seat c.enter-value.ensures.seen c.leave_read.new.seat (Query c.args.query.now) (λ start seen. c.in-Ok.view ≡ look start seen c.args.seat.now.caller c.args.query.now)
    c.leave_read.ensures.seat
    (sees c.args.seat.now c.enter-value.new.seat c.requires.ready.1 c.enter-value.ensures.seat c.enter-value.ensures.seen c.in-Ok.view c.args.query.now _ _ c.enter-value.ensures.opening c.caller.ensures.caller
    (c.in-Ok.ensures _ c.enter-value.ensures.stands))
