-- By the lemma of that name.
use Rattle.law_lasting.proofs.SingleLasts.{swallowing_keeps}
use Rattle.law_lasting.proofs.fullscreen.swallowing_keeps_one_fullscreen.Goals as goal

pub returns : goal.returns
returns c = swallowing_keeps
