-- By the lemma of that name.
use Rattle.law_desk.proofs.LastingLemmas.{histories_are}
use Rattle.law_desk.proofs.histories_are_in_order.Goals as goal

pub returns : goal.returns
returns c = histories_are
