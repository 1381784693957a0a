use Rattle.std.proofs.Common.{◌*◌, ◌≤◌}
use Rattle.wm_book.specs.Carried.{IsBack}
use Rattle.wm_book.proofs.tests.race.take_hundred.Given as goal

-- the seat is ready for the next call
abbrev pub invariant-loop-pair : goal.invariant-loop-pair
invariant-loop-pair g l = IsBack l.fn.book l.fn.seat l.seat × (l.done ≤ 2 * l._pair)
