-- By the lemma of that name.
use Rattle.wm_opens.proofs.SwallowLemmas.{opens_swallowed}
use Rattle.wm_opens.proofs.swallowing.swallowing_lets_no_other_open.Goals as goal

pub returns : goal.returns
returns c = opens_swallowed
