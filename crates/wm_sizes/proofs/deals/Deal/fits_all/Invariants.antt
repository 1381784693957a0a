use Rattle.std.proofs.Common.{◌≡◌, ◌≤◌, ◌+◌}
use Rattle.wm_forest.specs.Counts.{row_length}
use Rattle.wm_sizes.specs.Deals.{fits_all, siblings}
use Rattle.wm_sizes.proofs.deals.Deal.fits_all.Given as goal

abbrev pub decreases-loop-part : goal.decreases-loop-part
decreases-loop-part l = row_length l.row

-- the row fits where what is left of it does
abbrev pub invariant-loop-part : goal.invariant-loop-part
invariant-loop-part l = record {
  few : l.turn + row_length l.row ≤ 1000;
  fit : fits_all l.self l.turn (siblings l.row) ≡ fits_all l.self l.fn.turn (siblings l.fn.row);
}
