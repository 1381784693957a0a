-- By the lemma of that name.
use Rattle.law_names.proofs.SpaceLaws.{removed_outputs_keep}
use Rattle.law_names.proofs.spaces.an_output_that_goes_keeps_space_names.Goals as goal

pub returns : goal.returns
returns c = removed_outputs_keep
