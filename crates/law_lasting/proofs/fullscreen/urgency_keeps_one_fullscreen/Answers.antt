-- By the lemma of that name.
use Rattle.law_lasting.proofs.SingleLasts.{urgency_keeps}
use Rattle.law_lasting.proofs.fullscreen.urgency_keeps_one_fullscreen.Goals as goal

pub returns : goal.returns
returns c = urgency_keeps
