use Rattle.std.proofs.Common.{◌≡◌, length}
use Rattle.wm_txn.specs.Windows.{least_left}
use Rattle.wm_txn.proofs.LeastLemmas.{least_of}
use Rattle.wm_txn.proofs.windows.least_left.Given as goal

-- the lesser of the least so far and that of the rest is that of all
abbrev pub invariant-loop-rest : goal.invariant-loop-rest
invariant-loop-rest l = least_of l.least (least_left l.number l.windows l.rest) ≡ least_left l.number l.windows l.fn.parts

abbrev pub decreases-loop-rest : goal.decreases-loop-rest
decreases-loop-rest l = length l.rest
