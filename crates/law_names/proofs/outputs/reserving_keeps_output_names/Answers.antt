-- By the lemma of that name.
use Rattle.law_names.proofs.OutputLaws.{reserving_keeps}
use Rattle.law_names.proofs.outputs.reserving_keeps_output_names.Goals as goal

pub returns : goal.returns
returns c = reserving_keeps
