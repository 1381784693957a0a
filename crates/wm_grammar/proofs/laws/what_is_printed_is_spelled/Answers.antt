use Rattle.wm_grammar.proofs.GroupLemmas.{printed}
use Rattle.wm_grammar.proofs.laws.what_is_printed_is_spelled.Goals as goal

pub returns : goal.returns
returns c = λ b h. printed b h
