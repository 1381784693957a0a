use Rattle.wm_book.specs.Carried.{IsBack}
use Rattle.cases_sessions.proofs.actors.take_stages.Given as goal

-- the seat is ready for the next stage
abbrev pub invariant-loop-steps : goal.invariant-loop-steps
invariant-loop-steps g l = IsBack l.fn.book l.fn.seat l.seat
