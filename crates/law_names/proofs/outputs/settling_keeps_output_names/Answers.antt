-- By the lemma of that name.
use Rattle.law_names.proofs.OutputLaws.{settling_keeps}
use Rattle.law_names.proofs.outputs.settling_keeps_output_names.Goals as goal

pub returns : goal.returns
returns c = settling_keeps
