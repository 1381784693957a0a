-- By the lemma of that name.
use Rattle.law_fullscreen.proofs.LawLemmas.{exchanging_keeps}
use Rattle.law_fullscreen.proofs.steps.exchanged_containers_keep_one.Goals as goal

pub returns : goal.returns
returns c = exchanging_keeps
