-- By the lemma of that name.
use Rattle.law_names.proofs.SpaceLaws.{closing_keeps}
use Rattle.law_names.proofs.spaces.closing_keeps_space_names.Goals as goal

pub returns : goal.returns
returns c = closing_keeps
