use Rattle.std.proofs.Common.{◌≡◌, length}
use Rattle.wm_forest.specs.Recency.{first_held}
use Rattle.wm_forest.proofs.recency.first_taken.Given as goal

-- the first in all of the list is the first in what is left of it
abbrev pub invariant-loop-rest : goal.invariant-loop-rest
invariant-loop-rest g l = first_held (g.H.Holds.nodes l.holder) l.rest ≡ first_held (g.H.Holds.nodes l.holder) l.fn.ids

abbrev pub decreases-loop-rest : goal.decreases-loop-rest
decreases-loop-rest g l = length l.rest
