use Rattle.std.proofs.Common.{length, List}
use Rattle.wm_arrange.specs.declared.parts.Placed.{Placed}
use Rattle.wm_txn.specs.Queue.{IsQueue}
use Rattle.wm_txn.proofs.queue.trim.Given as goal

-- what is left is a queue where the whole was one
abbrev pub invariant-loop-con : goal.invariant-loop-con
invariant-loop-con l = (parts : List Placed) → IsQueue l.number l.windows parts l.initial.queue.items → IsQueue l.number l.windows parts l.queue.items

abbrev pub decreases-loop-con : goal.decreases-loop-con
decreases-loop-con l = length l.queue.items
