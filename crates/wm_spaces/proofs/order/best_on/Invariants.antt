use Rattle.std.proofs.Common.{◌≡◌}
use Rattle.wm_forest.specs.Forest.{node_count}
use Rattle.wm_spaces.proofs.OrderLemmas.{best_over}
use Rattle.wm_spaces.specs.Order.{best_on}
use Rattle.wm_spaces.proofs.order.best_on.Given as goal

-- the best so far, and what is left of the row, give the best of all
abbrev pub invariant-outputs : goal.invariant-outputs
invariant-outputs l = best_over l.back l.pick l.best l.row ≡ best_on l.back l.pick l.fn.row

abbrev pub decreases-outputs : goal.decreases-outputs
decreases-outputs l = node_count l.row
