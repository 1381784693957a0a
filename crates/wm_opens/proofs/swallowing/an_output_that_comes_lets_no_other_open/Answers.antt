-- By the lemma of that name.
use Rattle.wm_opens.proofs.PlaceholderLemmas.{opens_added}
use Rattle.wm_opens.proofs.swallowing.an_output_that_comes_lets_no_other_open.Goals as goal

pub returns : goal.returns
returns c = opens_added
