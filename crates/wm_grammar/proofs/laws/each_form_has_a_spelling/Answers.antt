use Rattle.wm_grammar.proofs.WrittenLemmas.{form_spelled}
use Rattle.wm_grammar.proofs.laws.each_form_has_a_spelling.Goals as goal

pub returns : goal.returns
returns c = λ slots k f h. form_spelled slots k f h
