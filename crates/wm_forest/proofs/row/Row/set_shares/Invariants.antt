use Rattle.std.proofs.Common.{◌≡◌}
use Rattle.wm_forest.specs.Counts.{row_length}
use Rattle.wm_forest.specs.Passing.{onto}
use Rattle.wm_forest.specs.Shares.{shared}
use Rattle.wm_forest.proofs.row.Row.set_shares.Given as goal

-- what was given shares, before what is left of the row with those left, is the row with all of them
abbrev pub invariant-loop-cell : goal.invariant-loop-cell
invariant-loop-cell l = onto l.done (shared l.left l.self) ≡ shared l.siblings l.fn.self

abbrev pub decreases-loop-cell : goal.decreases-loop-cell
decreases-loop-cell l = row_length l.self
