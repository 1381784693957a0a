use Rattle.wm_book.specs.Carried.{IsBack}
use Rattle.cases_sessions.proofs.actors.stop_when_done.Given as goal

-- the seat is ready for the next look
abbrev pub invariant-loop-look : goal.invariant-loop-look
invariant-loop-look g l = IsBack l.fn.book l.fn.seat l.seat
