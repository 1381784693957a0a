use Rattle.wm_grammar.proofs.PlaceLemmas.{farthest_place}
use Rattle.wm_grammar.proofs.laws.a_text_reads_as_far_as_it_spells.Goals as goal

pub returns : goal.returns
returns c = λ text n h. farthest_place text n h
