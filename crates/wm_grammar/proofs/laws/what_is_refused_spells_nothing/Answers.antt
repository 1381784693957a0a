use Rattle.wm_grammar.proofs.PlaceLemmas.{refused}
use Rattle.wm_grammar.proofs.laws.what_is_refused_spells_nothing.Goals as goal

pub returns : goal.returns
returns c = λ text h b k. refused text h b k
