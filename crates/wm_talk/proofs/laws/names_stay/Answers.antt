use Rattle.wm_talk.proofs.LawLemmas.{names_stay}
use Rattle.wm_talk.proofs.laws.names_stay.Goals as goal

pub returns : goal.returns
returns c = names_stay
