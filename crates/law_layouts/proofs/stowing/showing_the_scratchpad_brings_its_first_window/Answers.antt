-- The first window of the scratchpad that comes, by the lemma of that name.
use Rattle.law_layouts.proofs.StowLaws.{shows_first}
use Rattle.law_layouts.proofs.stowing.showing_the_scratchpad_brings_its_first_window.Goals as goal

pub returns : goal.returns
returns c = shows_first
