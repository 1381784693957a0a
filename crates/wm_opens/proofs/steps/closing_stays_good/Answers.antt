-- By the lemma of that name.
use Rattle.wm_opens.proofs.StepLemmas.{good_closed}
use Rattle.wm_opens.proofs.steps.closing_stays_good.Goals as goal

pub returns : goal.returns
returns c = good_closed
