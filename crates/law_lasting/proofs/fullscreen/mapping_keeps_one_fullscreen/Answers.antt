-- By the lemma of that name.
use Rattle.law_lasting.proofs.SingleLasts.{mapping_keeps}
use Rattle.law_lasting.proofs.fullscreen.mapping_keeps_one_fullscreen.Goals as goal

pub returns : goal.returns
returns c = mapping_keeps
