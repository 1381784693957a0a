use Rattle.wm_core.proofs.LawLemmas.{contents_are_shown}
use Rattle.wm_core.proofs.laws.each_window_in_the_frame_is_shown.Goals as goal

pub returns : goal.returns
returns c = contents_are_shown
