-- By the lemma of that name.
use Rattle.wm_opens.proofs.PlaceholderLemmas.{opens_detached}
use Rattle.wm_opens.proofs.swallowing.closing_lets_no_other_open.Goals as goal

pub returns : goal.returns
returns c = opens_detached
