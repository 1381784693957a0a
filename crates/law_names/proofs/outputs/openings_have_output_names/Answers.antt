-- By the lemma of that name.
use Rattle.law_names.proofs.OutputNames.{opening_differs}
use Rattle.law_names.proofs.outputs.openings_have_output_names.Goals as goal

pub returns : goal.returns
returns c = opening_differs
