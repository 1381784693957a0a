-- By the lemma of that name.
use Rattle.law_names.proofs.SpaceLaws.{swallowing_keeps}
use Rattle.law_names.proofs.spaces.swallowing_keeps_space_names.Goals as goal

pub returns : goal.returns
returns c = swallowing_keeps
