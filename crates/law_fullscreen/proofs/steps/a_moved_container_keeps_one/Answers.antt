-- By the lemma of that name.
use Rattle.law_fullscreen.proofs.LawLemmas.{moving_keeps}
use Rattle.law_fullscreen.proofs.steps.a_moved_container_keeps_one.Goals as goal

pub returns : goal.returns
returns c = moving_keeps
