-- By the lemma of that name.
use Rattle.law_fullscreen.proofs.LawLemmas.{mapping_keeps}
use Rattle.law_fullscreen.proofs.steps.a_mapped_window_keeps_one.Goals as goal

pub returns : goal.returns
returns c = mapping_keeps
