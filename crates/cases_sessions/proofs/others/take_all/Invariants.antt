use Rattle.wm_book.specs.Carried.{IsBack}
use Rattle.cases_sessions.proofs.others.take_all.Given as goal

-- the seat is ready for the next part
abbrev pub invariant-loop-part : goal.invariant-loop-part
invariant-loop-part g l = IsBack l.book l.initial.seat l.seat
