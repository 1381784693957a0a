use Rattle.wm_txn.proofs.StandingLemmas.{begins_within}
use Rattle.wm_txn.proofs.laws.transactions_begin_within_the_history.Goals as goal

pub returns : goal.returns
returns c = begins_within
