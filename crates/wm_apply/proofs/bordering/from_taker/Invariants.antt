use Rattle.std.proofs.Common.{◌≡◌, length}
use Rattle.wm_apply.specs.Bordering.{takers}
use Rattle.wm_apply.proofs.bordering.from_taker.Given as goal

-- the rest has the first that takes the change where all have one
abbrev pub invariant-loop-rest : goal.invariant-loop-rest
invariant-loop-rest l = takers l.change l.rest l.rows.tree.now ≡ takers l.change l.cons l.rows.tree.now

abbrev pub decreases-loop-rest : goal.decreases-loop-rest
decreases-loop-rest l = length l.rest
