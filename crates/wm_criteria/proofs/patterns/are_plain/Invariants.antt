use Rattle.std.proofs.Common.{◌≡◌, length}
use Rattle.wm_criteria.specs.Forms.{are_plain}
use Rattle.wm_criteria.proofs.patterns.are_plain.Given as goal

-- all are plain where those that are left are
abbrev pub invariant-loop-rest : goal.invariant-loop-rest
invariant-loop-rest l = are_plain l.rest ≡ are_plain l.groups

abbrev pub decreases-loop-rest : goal.decreases-loop-rest
decreases-loop-rest l = length l.rest
