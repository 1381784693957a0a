-- By the lemma of that name.
use Rattle.wm_opens.proofs.SwallowLemmas.{spends_its_id}
use Rattle.wm_opens.proofs.swallowing.swallowing_spends_its_id.Goals as goal

pub returns : goal.returns
returns c = spends_its_id
