-- By the lemma of that name.
use Rattle.law_names.proofs.OutputLaws.{urgency_keeps}
use Rattle.law_names.proofs.outputs.urgency_keeps_output_names.Goals as goal

pub returns : goal.returns
returns c = urgency_keeps
