-- By the lemma of that name.
use Rattle.law_names.proofs.OutputLaws.{added_outputs_keep}
use Rattle.law_names.proofs.outputs.an_output_that_comes_keeps_output_names.Goals as goal

pub returns : goal.returns
returns c = added_outputs_keep
