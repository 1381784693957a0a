use Rattle.std.proofs.Common.{◌≡◌, length}
use Rattle.wm_spaces.specs.Order.{number_on}
use Rattle.wm_spaces.proofs.order.number_on.Given as goal

-- the digits that are left make the same number
abbrev pub invariant-loop-rest : goal.invariant-loop-rest
invariant-loop-rest l = number_on l.number l.rest ≡ number_on l.n l.bytes

abbrev pub decreases-loop-rest : goal.decreases-loop-rest
decreases-loop-rest l = length l.rest
