use Rattle.wm_txn.proofs.ShownLemmas.{shows_opening}
use Rattle.wm_txn.proofs.laws.a_window_shows_its_opening.Goals as goal

pub returns : goal.returns
returns c = shows_opening
