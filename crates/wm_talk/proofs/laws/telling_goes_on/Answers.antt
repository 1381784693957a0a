use Rattle.wm_talk.proofs.LawLemmas.{goes_on}
use Rattle.wm_talk.proofs.laws.telling_goes_on.Goals as goal

pub returns : goal.returns
returns c = goes_on
