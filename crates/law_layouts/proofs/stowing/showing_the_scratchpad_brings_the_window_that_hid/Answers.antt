-- The window that hid and comes, by the lemma of that name.
use Rattle.law_layouts.proofs.HideLaws.{shows_what_hid}
use Rattle.law_layouts.proofs.stowing.showing_the_scratchpad_brings_the_window_that_hid.Goals as goal

pub returns : goal.returns
returns c = shows_what_hid
