use Rattle.wm_txn.proofs.ToldLemmas.{tells_waiting}
use Rattle.wm_txn.proofs.laws.a_waiting_transaction_is_told.Goals as goal

pub returns : goal.returns
returns c = tells_waiting
