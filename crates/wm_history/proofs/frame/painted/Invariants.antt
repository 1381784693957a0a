use Rattle.std.proofs.Common.{◌≡◌, ◌++◌, length}
use Rattle.wm_history.specs.Frame.{quads}
use Rattle.wm_txn.specs.Machine.{shown_of}
use Rattle.wm_history.proofs.frame.painted.Given as goal

-- the quads so far and those of the rest are those of all
abbrev pub invariant-loop-rest : goal.invariant-loop-rest
invariant-loop-rest l = l.quads.items ++ quads (λ v. shown_of v l.txn) l.rest ≡ quads (λ v. shown_of v l.txn) l.txn.current.parts

abbrev pub decreases-loop-rest : goal.decreases-loop-rest
decreases-loop-rest l = length l.rest
