use Rattle.std.proofs.Common.{◌≡◌, length}
use Rattle.wm_words.specs.Pieces.{has}
use Rattle.wm_words.specs.Words.{stops}
use Rattle.wm_words.proofs.words.stops_in.Given as goal

abbrev pub invariant-loop-rest : goal.invariant-loop-rest
invariant-loop-rest l = has (stops l.stop) l.rest ≡ has (stops l.stop) l.text

abbrev pub decreases-loop-rest : goal.decreases-loop-rest
decreases-loop-rest l = length l.rest
