-- By the lemma of that name.
use Rattle.wm_opens.proofs.StepLemmas.{good_mapped}
use Rattle.wm_opens.proofs.steps.mapping_stays_good.Goals as goal

pub returns : goal.returns
returns c = good_mapped
