use Rattle.std.proofs.Common.{◌≡◌, ℕ, ◌<◌, length, get_or}
use Rattle.std.specs.Prelude.{if◌then◌else◌}
use Rattle.wm_paint.specs.Rows.{in_box}
use Rattle.wm_paint.specs.Picture.{black}
use Rattle.wm_paint.proofs.paint.fill_rows.Given as goal

-- the rows so far are filled
abbrev pub invariant-loop-row : goal.invariant-loop-row
invariant-loop-row l = (k : ℕ) → k < length l.fn.inks → get_or l.inks k black ≡ (if in_box l.width l.left l.right l.top l.row k then l.ink else get_or l.fn.inks k black)
