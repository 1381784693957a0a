-- By the lemma of that name.
use Rattle.wm_opens.proofs.SwallowLemmas.{fills_swallowed}
use Rattle.wm_opens.proofs.swallowing.a_swallowed_window_fills_its_placeholder.Goals as goal

pub returns : goal.returns
returns c = fills_swallowed
