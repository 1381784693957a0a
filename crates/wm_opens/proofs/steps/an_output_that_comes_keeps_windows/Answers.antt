-- By the lemma of that name.
use Rattle.wm_opens.proofs.OpenLemmas.{added_output_keeps}
use Rattle.wm_opens.proofs.steps.an_output_that_comes_keeps_windows.Goals as goal

pub returns : goal.returns
returns c = added_output_keeps
