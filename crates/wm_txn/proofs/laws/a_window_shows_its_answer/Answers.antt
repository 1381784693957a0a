use Rattle.wm_txn.proofs.ShownLemmas.{shows_answer}
use Rattle.wm_txn.proofs.laws.a_window_shows_its_answer.Goals as goal

pub returns : goal.returns
returns c = shows_answer
