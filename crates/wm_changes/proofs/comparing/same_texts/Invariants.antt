use Rattle.std.proofs.Common.{◌≡◌, length}
use Rattle.std.specs.Cmp.Lexicographic.{pointwise}
use Rattle.std.specs.Str.{bytes_eq}
use Rattle.wm_changes.proofs.comparing.same_texts.Given as goal

-- what is left is the same where all is
abbrev pub invariant-loop-left : goal.invariant-loop-left
invariant-loop-left l = pointwise bytes_eq l.left.0.now l.left.1.now ≡ pointwise bytes_eq l.texts l.others

abbrev pub decreases-loop-left : goal.decreases-loop-left
decreases-loop-left l = length l.left.0.now
