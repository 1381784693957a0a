-- By the lemma of that name.
use Rattle.wm_opens.proofs.PlaceholderLemmas.{no_other_may_open}
use Rattle.wm_opens.proofs.swallowing.no_other_id_may_open.Goals as goal

pub returns : goal.returns
returns c = no_other_may_open
