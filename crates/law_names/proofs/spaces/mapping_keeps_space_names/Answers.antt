-- By the lemma of that name.
use Rattle.law_names.proofs.SpaceLaws.{mapping_keeps}
use Rattle.law_names.proofs.spaces.mapping_keeps_space_names.Goals as goal

pub returns : goal.returns
returns c = mapping_keeps
