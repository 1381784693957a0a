use Rattle.wm_book.specs.Carried.{IsBack}
use Rattle.cases_sessions.proofs.others.take_often.Given as goal

-- the seat is ready for the next call
abbrev pub invariant-loop-again : goal.invariant-loop-again
invariant-loop-again g l = IsBack l.book l.initial.seat l.seat
