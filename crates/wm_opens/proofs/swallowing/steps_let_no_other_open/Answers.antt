-- By the lemma of that name.
use Rattle.wm_opens.proofs.PlaceholderLemmas.{opens_trans}
use Rattle.wm_opens.proofs.swallowing.steps_let_no_other_open.Goals as goal

pub returns : goal.returns
returns c = opens_trans
