-- By the lemma of that name.
use Rattle.law_names.proofs.OutputLaws.{closing_keeps}
use Rattle.law_names.proofs.outputs.closing_keeps_output_names.Goals as goal

pub returns : goal.returns
returns c = closing_keeps
