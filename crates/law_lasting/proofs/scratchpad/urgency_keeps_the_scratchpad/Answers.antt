-- By the lemma of that name.
use Rattle.law_lasting.proofs.ScratchpadLemmas.{urgency_keeps}
use Rattle.law_lasting.proofs.scratchpad.urgency_keeps_the_scratchpad.Goals as goal

pub returns : goal.returns
returns c = urgency_keeps
