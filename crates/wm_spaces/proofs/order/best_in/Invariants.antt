use Rattle.std.proofs.Common.{◌≡◌, None}
use Rattle.wm_forest.specs.Forest.{node_count}
use Rattle.wm_spaces.proofs.OrderLemmas.{best_from}
use Rattle.wm_spaces.specs.Order.{best_with, keys_in}
use Rattle.wm_spaces.proofs.order.best_in.Given as goal

-- the best so far, and what is left of the row, give the best of all
abbrev pub invariant-loop-part : goal.invariant-loop-part
invariant-loop-part l = best_from l.back l.pick l.best l.row ≡ best_with l.back (keys_in l.pick l.fn.row) None

abbrev pub decreases-loop-part : goal.decreases-loop-part
decreases-loop-part l = node_count l.row
