-- By the lemma of that name.
use Rattle.law_names.proofs.OutputLaws.{removed_outputs_keep}
use Rattle.law_names.proofs.outputs.an_output_that_goes_keeps_output_names.Goals as goal

pub returns : goal.returns
returns c = removed_outputs_keep
