use Rattle.std.proofs.Common.{◌≡◌, ◌+◌, ◌≤◌, ◌++◌, take, true}
use Rattle.wm_forest.specs.Counts.{row_length}
use Rattle.wm_sizes.specs.Deals.{changes, fits_all, siblings}
use Rattle.wm_sizes.proofs.handing.put_row.Given as goal

abbrev pub decreases-loop-part : goal.decreases-loop-part
decreases-loop-part l = row_length l.row

-- the first ones of the list and the changes of what is left of the row are the changes of the row
abbrev pub invariant-loop-part : goal.invariant-loop-part
invariant-loop-part l = record {
  few : l.number + row_length l.row ≤ 256;
  turns : l.turn + row_length l.row ≤ 256;
  fit : fits_all l.deal l.turn (siblings l.row) ≡ true;
  done : take l.number l.hand ++ changes l.deal l.turn (siblings l.row) ≡ changes l.deal 0 (siblings l.fn.row);
}
