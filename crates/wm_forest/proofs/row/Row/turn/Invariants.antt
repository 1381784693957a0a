use Rattle.std.proofs.Common.{◌≡◌}
use Rattle.wm_forest.specs.Counts.{row_length}
use Rattle.wm_forest.specs.Forest.{end}
use Rattle.wm_forest.specs.Passing.{onto}
use Rattle.wm_forest.proofs.row.Row.turn.Given as goal

-- what is left before what was taken, is all
abbrev pub invariant-loop-cell : goal.invariant-loop-cell
invariant-loop-cell l = onto l.self l.done ≡ onto l.fn.self end

abbrev pub decreases-loop-cell : goal.decreases-loop-cell
decreases-loop-cell l = row_length l.self
