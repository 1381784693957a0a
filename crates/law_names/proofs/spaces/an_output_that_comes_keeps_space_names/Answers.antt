-- By the lemma of that name.
use Rattle.law_names.proofs.SpaceLaws.{added_outputs_keep}
use Rattle.law_names.proofs.spaces.an_output_that_comes_keeps_space_names.Goals as goal

pub returns : goal.returns
returns c = added_outputs_keep
