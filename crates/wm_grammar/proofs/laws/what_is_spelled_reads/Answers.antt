use Rattle.wm_grammar.proofs.GroupLemmas.{reads}
use Rattle.wm_grammar.proofs.laws.what_is_spelled_reads.Goals as goal

pub returns : goal.returns
returns c = λ text b h. reads text b h
