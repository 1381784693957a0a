-- By the lemma of that name.
use Rattle.wm_opens.proofs.PlaceholderLemmas.{opens_edited}
use Rattle.wm_opens.proofs.swallowing.a_change_lets_no_other_open.Goals as goal

pub returns : goal.returns
returns c = opens_edited
