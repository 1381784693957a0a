-- By the lemma of that name.
use Rattle.law_names.proofs.SpaceLaws.{urgency_keeps}
use Rattle.law_names.proofs.spaces.urgency_keeps_space_names.Goals as goal

pub returns : goal.returns
returns c = urgency_keeps
