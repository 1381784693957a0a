use Rattle.wm_words.specs.Words.{stops}
use Rattle.wm_words.proofs.Pieces.{NoneBefore}
use Rattle.wm_words.proofs.words.cut.Given as goal

abbrev pub invariant-loop-i : goal.invariant-loop-i
invariant-loop-i l = NoneBefore (stops l.stop) l.text l.i
