use Rattle.std.proofs.Common.{◌≡◌, length}
use Rattle.wm_words.specs.Pieces.{is_word}
use Rattle.wm_words.proofs.words.is_word.Given as goal

abbrev pub invariant-loop-left : goal.invariant-loop-left
invariant-loop-left l = is_word l.left l.other ≡ is_word l.word l.name

abbrev pub decreases-loop-left : goal.decreases-loop-left
decreases-loop-left l = length l.left
