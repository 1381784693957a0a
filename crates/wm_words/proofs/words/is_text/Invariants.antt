use Rattle.std.proofs.Common.{◌≡◌, length}
use Rattle.wm_words.specs.Pieces.{is_text}
use Rattle.wm_words.proofs.words.is_text.Given as goal

abbrev pub invariant-loop-left : goal.invariant-loop-left
invariant-loop-left l = is_text l.left l.right ≡ is_text l.text l.other

abbrev pub decreases-loop-left : goal.decreases-loop-left
decreases-loop-left l = length l.left
