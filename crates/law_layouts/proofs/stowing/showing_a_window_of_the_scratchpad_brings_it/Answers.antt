-- A window of the scratchpad that comes, by the lemma of that name.
use Rattle.law_layouts.proofs.StowLaws.{shows_this}
use Rattle.law_layouts.proofs.stowing.showing_a_window_of_the_scratchpad_brings_it.Goals as goal

pub returns : goal.returns
returns c = shows_this
