-- By the lemma of that name.
use Rattle.wm_opens.proofs.SwallowLemmas.{none_swallowed}
use Rattle.wm_opens.proofs.swallowing.a_window_that_none_swallows_changes_nothing.Goals as goal

pub returns : goal.returns
returns c = none_swallowed
