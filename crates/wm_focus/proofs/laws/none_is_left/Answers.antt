use Rattle.wm_focus.proofs.LawLemmas.{none_left}
use Rattle.wm_focus.proofs.laws.none_is_left.Goals as goal

pub returns : goal.returns
returns c = none_left
