-- By the lemma of that name.
use Rattle.wm_opens.proofs.SwallowLemmas.{good_swallowed}
use Rattle.wm_opens.proofs.swallowing.swallowing_stays_good.Goals as goal

pub returns : goal.returns
returns c = good_swallowed
