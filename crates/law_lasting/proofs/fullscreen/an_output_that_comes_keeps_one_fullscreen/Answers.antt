-- By the lemma of that name.
use Rattle.law_lasting.proofs.SingleLasts.{added_outputs_keep}
use Rattle.law_lasting.proofs.fullscreen.an_output_that_comes_keeps_one_fullscreen.Goals as goal

pub returns : goal.returns
returns c = added_outputs_keep
