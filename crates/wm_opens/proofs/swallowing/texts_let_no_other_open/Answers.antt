-- By the lemma of that name.
use Rattle.wm_opens.proofs.PlaceholderLemmas.{opens_outcome}
use Rattle.wm_opens.proofs.swallowing.texts_let_no_other_open.Goals as goal

pub returns : goal.returns
returns c = opens_outcome
