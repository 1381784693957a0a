use Rattle.std.proofs.Common.{◌≡◌, length}
use Rattle.wm_words.specs.Pieces.{digits_from}
use Rattle.wm_words.proofs.numbers.natural.Given as goal

abbrev pub invariant-loop-rest : goal.invariant-loop-rest
invariant-loop-rest l = digits_from l.n l.rest ≡ digits_from 0 l.word

abbrev pub decreases-loop-rest : goal.decreases-loop-rest
decreases-loop-rest l = length l.rest
