use Rattle.std.proofs.Common.{◌≡◌, length}
use Rattle.wm_floats.specs.Kinds.{first_of}
use Rattle.wm_floats.proofs.kinds.latest.Given as goal

-- the first in all of the list is the first in what is left of it
abbrev pub invariant-loop-id : goal.invariant-loop-id
invariant-loop-id l = first_of l.kind l.w l.t l.rest ≡ first_of l.kind l.w l.t l.t.recency

abbrev pub decreases-loop-id : goal.decreases-loop-id
decreases-loop-id l = length l.rest
