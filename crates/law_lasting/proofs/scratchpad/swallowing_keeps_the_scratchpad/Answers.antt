-- By the lemma of that name.
use Rattle.law_lasting.proofs.ScratchpadLemmas.{swallowing_keeps}
use Rattle.law_lasting.proofs.scratchpad.swallowing_keeps_the_scratchpad.Goals as goal

pub returns : goal.returns
returns c = swallowing_keeps
