use Rattle.std.proofs.Common.{◌≡◌, length}
use Rattle.wm_forest.specs.Recency.{lists}
use Rattle.wm_tree.proofs.lists.lists.Given as goal

-- the window is among the rest where it is among all
abbrev pub invariant-loop-rest : goal.invariant-loop-rest
invariant-loop-rest l = lists l.con l.rest ≡ lists l.con l.ids

abbrev pub decreases-loop-rest : goal.decreases-loop-rest
decreases-loop-rest l = length l.rest
