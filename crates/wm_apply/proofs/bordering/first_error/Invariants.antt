use Rattle.std.proofs.Common.{◌≡◌, length}
use Rattle.wm_apply.specs.Bordering.{first_error}
use Rattle.wm_apply.specs.Subjects.{or_error}
use Rattle.wm_apply.proofs.bordering.first_error.Given as goal

-- the errors so far and those of the rest are those of all
abbrev pub invariant-loop-rest : goal.invariant-loop-rest
invariant-loop-rest l = or_error l.first (first_error l.change l.rest l.rows.tree.now) ≡ first_error l.change l.cons l.rows.tree.now

abbrev pub decreases-loop-rest : goal.decreases-loop-rest
decreases-loop-rest l = length l.rest
