-- By the lemma of that name.
use Rattle.law_names.proofs.OutputLaws.{retitling_keeps}
use Rattle.law_names.proofs.outputs.retitling_keeps_output_names.Goals as goal

pub returns : goal.returns
returns c = retitling_keeps
