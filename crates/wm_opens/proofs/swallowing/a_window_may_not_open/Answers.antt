-- By the lemma of that name.
use Rattle.wm_opens.proofs.PlaceholderLemmas.{window_may_not_open}
use Rattle.wm_opens.proofs.swallowing.a_window_may_not_open.Goals as goal

pub returns : goal.returns
returns c = window_may_not_open
