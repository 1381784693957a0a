use Rattle.std.proofs.Common.{◌≡◌, ℕ, ◌<◌, length, get_or}
use Rattle.wm_paint.specs.CanvasValue.{count, x_at, y_at}
use Rattle.wm_paint.specs.Picture.{after_quads, black}
use Rattle.wm_paint.proofs.paint.paint_quads.Given as goal

-- the rest of the quads makes of the pixels so far what all make of those at first
abbrev pub invariant-loop-rest : goal.invariant-loop-rest
invariant-loop-rest l = (k : ℕ) → k < count l.area → after_quads l.rest (x_at l.area k) (y_at l.area k) (get_or l.inks k black) ≡ after_quads l.quads (x_at l.area k) (y_at l.area k) (get_or l.fn.inks k black)

abbrev pub decreases-loop-rest : goal.decreases-loop-rest
decreases-loop-rest l = length l.rest
