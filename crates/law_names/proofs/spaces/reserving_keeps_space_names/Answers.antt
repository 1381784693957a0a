-- By the lemma of that name.
use Rattle.law_names.proofs.SpaceLaws.{reserving_keeps}
use Rattle.law_names.proofs.spaces.reserving_keeps_space_names.Goals as goal

pub returns : goal.returns
returns c = reserving_keeps
