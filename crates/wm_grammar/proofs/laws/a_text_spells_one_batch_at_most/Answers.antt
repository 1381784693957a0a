use Rattle.wm_grammar.proofs.GroupLemmas.{one_batch}
use Rattle.wm_grammar.proofs.laws.a_text_spells_one_batch_at_most.Goals as goal

pub returns : goal.returns
returns c = λ text a b h k. one_batch text a b h k
