use Rattle.wm_txn.proofs.LastingLemmas.{second_awaits_nobody}
use Rattle.wm_txn.proofs.laws.the_second_awaits_nobody.Goals as goal

pub returns : goal.returns
returns c = second_awaits_nobody
