-- By the lemma of that name.
use Rattle.law_names.proofs.SpaceLaws.{texts_keep_names}
use Rattle.law_names.proofs.spaces.texts_keep_space_names.Goals as goal

pub returns : goal.returns
returns c = texts_keep_names
