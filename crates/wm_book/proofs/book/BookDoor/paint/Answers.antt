use Rattle.wm_book.proofs.SeatLemmas.{saw}
use Rattle.wm_book.proofs.book.BookDoor.paint.Goals as goal

-- no memory, so nothing is told
pub returns-in_default-clause-looks : goal.returns-in_default-clause-looks
returns-in_default-clause-looks g c = saw c.args.seat.now c.enter-value.new.seat c.requires.ready.1 c.enter-value.ensures.seat c.enter-value.ensures.seen c.leave.new.seat c.leave.ensures.seat
