-- By the lemma of that name.
use Rattle.law_names.proofs.SpaceLaws.{settling_keeps}
use Rattle.law_names.proofs.spaces.settling_keeps_space_names.Goals as goal

pub returns : goal.returns
returns c = settling_keeps
