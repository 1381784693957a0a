use Rattle.std.proofs.Common.{◌≡◌}
use Rattle.wm_forest.specs.Counts.{row_length}
use Rattle.wm_forest.specs.Passing.{kept_onto, taken_onto}
use Rattle.wm_forest.specs.Sticky.{sticky_in}
use Rattle.wm_forest.proofs.row.Row.hang_loose.Given as goal

-- what is left goes where all goes
abbrev pub invariant-loop-cell : goal.invariant-loop-cell
invariant-loop-cell l = record {
  kept : kept_onto sticky_in l.done l.self ≡ kept_onto sticky_in l.fn.done l.fn.self;
  taken : taken_onto sticky_in l.done l.taken ≡ taken_onto sticky_in l.fn.done l.fn.taken;
}

abbrev pub decreases-loop-cell : goal.decreases-loop-cell
decreases-loop-cell l = row_length l.done
