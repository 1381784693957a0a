-- By the lemma of that name.
use Rattle.law_lasting.proofs.ScratchpadLemmas.{added_outputs_keep}
use Rattle.law_lasting.proofs.scratchpad.an_output_that_comes_keeps_the_scratchpad.Goals as goal

pub returns : goal.returns
returns c = added_outputs_keep
