-- By the lemma of that name.
use Rattle.law_names.proofs.OutputLaws.{texts_keep_names}
use Rattle.law_names.proofs.outputs.texts_keep_output_names.Goals as goal

pub returns : goal.returns
returns c = texts_keep_names
