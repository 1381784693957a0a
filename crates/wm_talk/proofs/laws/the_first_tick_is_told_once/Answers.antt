use Rattle.wm_talk.proofs.LawLemmas.{one_first_tick}
use Rattle.wm_talk.proofs.laws.the_first_tick_is_told_once.Goals as goal

pub returns : goal.returns
returns c = one_first_tick
