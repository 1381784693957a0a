-- By the lemma of that name.
use Rattle.wm_opens.proofs.PlaceholderLemmas.{never_again}
use Rattle.wm_opens.proofs.swallowing.a_window_never_opens_again.Goals as goal

pub returns : goal.returns
returns c = never_again
