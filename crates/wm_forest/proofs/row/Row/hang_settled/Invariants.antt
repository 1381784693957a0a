use Rattle.std.proofs.Common.{◌≡◌}
use Rattle.wm_forest.specs.Counts.{row_length}
use Rattle.wm_forest.specs.Passing.{kept_onto, taken_onto}
use Rattle.wm_forest.specs.Settle.{vacant_in}
use Rattle.wm_forest.proofs.row.Row.hang_settled.Given as goal

-- what is left goes where all goes
abbrev pub invariant-loop-cell : goal.invariant-loop-cell
invariant-loop-cell l = record {
  kept : kept_onto (vacant_in l.shown) l.done l.self ≡ kept_onto (vacant_in l.fn.shown) l.fn.done l.fn.self;
  taken : taken_onto (vacant_in l.shown) l.done l.gone ≡ taken_onto (vacant_in l.fn.shown) l.fn.done l.fn.gone;
}

abbrev pub decreases-loop-cell : goal.decreases-loop-cell
decreases-loop-cell l = row_length l.done
