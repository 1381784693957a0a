use Rattle.std.proofs.Common.{◌≡◌, length}
use Rattle.wm_words.specs.Pieces.{unquote}
use Rattle.wm_words.proofs.Pieces.{with_front}
use Rattle.wm_words.proofs.words.unquote.Given as goal

abbrev pub invariant-loop-rest : goal.invariant-loop-rest
invariant-loop-rest l = with_front l.bytes.items (unquote l.rest) ≡ unquote l.text

abbrev pub decreases-loop-rest : goal.decreases-loop-rest
decreases-loop-rest l = length l.rest
