-- By the lemma of that name.
use Rattle.law_lasting.proofs.ScratchpadLemmas.{openings_empty}
use Rattle.law_lasting.proofs.scratchpad.openings_have_an_empty_scratchpad.Goals as goal

pub returns : goal.returns
returns c = openings_empty
