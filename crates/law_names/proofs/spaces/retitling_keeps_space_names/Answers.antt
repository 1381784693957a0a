-- By the lemma of that name.
use Rattle.law_names.proofs.SpaceLaws.{retitling_keeps}
use Rattle.law_names.proofs.spaces.retitling_keeps_space_names.Goals as goal

pub returns : goal.returns
returns c = retitling_keeps
