use Rattle.std.proofs.Common.{◌≡◌, ◌+◌}
use Rattle.wm_forest.specs.Counts.{row_length}
use Rattle.wm_sizes.proofs.tiled.count.Given as goal

abbrev pub decreases-loop-part : goal.decreases-loop-part
decreases-loop-part l = row_length l.rest

-- those counted and what is left of the row are the row
abbrev pub invariant-loop-part : goal.invariant-loop-part
invariant-loop-part l = record {
  number : l.number + row_length l.rest ≡ row_length l.row;
}
