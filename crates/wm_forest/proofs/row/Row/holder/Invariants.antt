use Rattle.std.proofs.Common.{◌≡◌}
use Rattle.wm_forest.specs.Focus.{row_holder}
use Rattle.wm_forest.proofs.row.Row.holder.Given as goal

-- who holds it in what is left of the row, holds it in the row
abbrev pub invariant-loop-row : goal.invariant-loop-row
invariant-loop-row l = row_holder l.id l.row ≡ row_holder l.id l.self
