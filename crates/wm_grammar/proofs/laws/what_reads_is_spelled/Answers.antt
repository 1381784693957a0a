use Rattle.wm_grammar.proofs.GroupLemmas.{spelled}
use Rattle.wm_grammar.proofs.laws.what_reads_is_spelled.Goals as goal

pub returns : goal.returns
returns c = λ text b h. spelled text b h
