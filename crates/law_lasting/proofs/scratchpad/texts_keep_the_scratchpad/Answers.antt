-- By the lemma of that name.
use Rattle.law_lasting.proofs.ScratchpadLemmas.{texts_keep}
use Rattle.law_lasting.proofs.scratchpad.texts_keep_the_scratchpad.Goals as goal

pub returns : goal.returns
returns c = texts_keep
