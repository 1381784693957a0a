-- By the lemma of that name.
use Rattle.law_names.proofs.SpaceNames.{opening_differs}
use Rattle.law_names.proofs.spaces.openings_have_space_names.Goals as goal

pub returns : goal.returns
returns c = opening_differs
