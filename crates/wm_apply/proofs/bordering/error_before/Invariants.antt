use Rattle.std.proofs.Common.{◌≡◌, None, length}
use Rattle.wm_apply.specs.Bordering.{refused_before}
use Rattle.wm_apply.proofs.bordering.error_before.Given as goal

-- behind the error so far the rest has the one that all have
abbrev pub invariant-loop-rest : goal.invariant-loop-rest
invariant-loop-rest l = refused_before l.change l.rest l.rows.tree.now l.first ≡ refused_before l.change l.cons l.rows.tree.now None

abbrev pub decreases-loop-rest : goal.decreases-loop-rest
decreases-loop-rest l = length l.rest
