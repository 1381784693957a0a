-- By the lemma of that name.
use Rattle.law_fullscreen.proofs.LawLemmas.{openings_have}
use Rattle.law_fullscreen.proofs.steps.openings_have_one.Goals as goal

pub returns : goal.returns
returns c = openings_have
