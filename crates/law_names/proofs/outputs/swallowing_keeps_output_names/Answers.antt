-- By the lemma of that name.
use Rattle.law_names.proofs.OutputLaws.{swallowing_keeps}
use Rattle.law_names.proofs.outputs.swallowing_keeps_output_names.Goals as goal

pub returns : goal.returns
returns c = swallowing_keeps
