use Rattle.std.proofs.Common.{◌≡◌}
use Rattle.wm_forest.specs.Look.{nth_id}
use Rattle.wm_forest.proofs.row.Row.nth.Given as goal

-- the node with the number left, in what is left of the row, is that of the row
abbrev pub invariant-loop-row : goal.invariant-loop-row
invariant-loop-row l = nth_id l.left l.row ≡ nth_id l.number l.self
