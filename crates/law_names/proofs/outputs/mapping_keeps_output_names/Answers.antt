-- By the lemma of that name.
use Rattle.law_names.proofs.OutputLaws.{mapping_keeps}
use Rattle.law_names.proofs.outputs.mapping_keeps_output_names.Goals as goal

pub returns : goal.returns
returns c = mapping_keeps
