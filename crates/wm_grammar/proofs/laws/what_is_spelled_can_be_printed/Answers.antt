use Rattle.wm_grammar.proofs.GroupLemmas.{printable}
use Rattle.wm_grammar.proofs.laws.what_is_spelled_can_be_printed.Goals as goal

pub returns : goal.returns
returns c = λ text b h. printable text b h
