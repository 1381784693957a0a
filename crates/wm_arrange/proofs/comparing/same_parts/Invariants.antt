use Rattle.std.proofs.Common.{◌≡◌, length}
use Rattle.wm_arrange.specs.Same.{same_parts}
use Rattle.wm_arrange.proofs.comparing.same_parts.Given as goal

-- what is left is the same where all is
abbrev pub invariant-loop-left : goal.invariant-loop-left
invariant-loop-left l = same_parts l.left.0.now l.left.1.now ≡ same_parts l.parts l.others

abbrev pub decreases-loop-left : goal.decreases-loop-left
decreases-loop-left l = length l.left.0.now
