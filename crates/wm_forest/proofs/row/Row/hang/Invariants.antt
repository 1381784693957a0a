use Rattle.std.proofs.Common.{◌≡◌}
use Rattle.wm_forest.specs.Counts.{row_length}
use Rattle.wm_forest.specs.Passing.{onto}
use Rattle.wm_forest.proofs.row.Row.hang.Given as goal

-- what is left before what was put, is all before the row
abbrev pub invariant-loop-cell : goal.invariant-loop-cell
invariant-loop-cell l = onto l.done l.self ≡ onto l.fn.done l.fn.self

abbrev pub decreases-loop-cell : goal.decreases-loop-cell
decreases-loop-cell l = row_length l.done
