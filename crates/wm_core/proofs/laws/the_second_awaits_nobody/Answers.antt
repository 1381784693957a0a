use Rattle.wm_core.proofs.LawLemmas.{second_awaits_nobody}
use Rattle.wm_core.proofs.laws.the_second_awaits_nobody.Goals as goal

pub returns : goal.returns
returns c = second_awaits_nobody
