-- By the lemma of that name.
use Rattle.wm_opens.proofs.OutputLemmas.{tidy_opening}
use Rattle.wm_opens.proofs.steps.openings_are_tidy.Goals as goal

pub returns : goal.returns
returns c = tidy_opening
