use Rattle.std.proofs.Common.{◌≡◌, ◌++◌, length}
use Rattle.wm_txn.specs.Queue.{lefts}
use Rattle.wm_txn.proofs.queue.gather.Given as goal

-- what was added so far and what the rest adds is what all parts add
abbrev pub invariant-loop-rest : goal.invariant-loop-rest
invariant-loop-rest l = l.ids.items ++ lefts l.number l.windows l.rest ≡ l.fn.ids.items ++ lefts l.number l.windows l.fn.parts

abbrev pub decreases-loop-rest : goal.decreases-loop-rest
decreases-loop-rest l = length l.rest
