-- By the lemma of that name.
use Rattle.wm_opens.proofs.PlaceholderLemmas.{opens_raised}
use Rattle.wm_opens.proofs.swallowing.raising_lets_no_other_open.Goals as goal

pub returns : goal.returns
returns c = opens_raised
