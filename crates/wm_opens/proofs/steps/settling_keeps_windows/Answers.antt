-- By the lemma of that name.
use Rattle.wm_opens.proofs.TextLemmas.{holds_settled}
use Rattle.wm_opens.proofs.steps.settling_keeps_windows.Goals as goal

pub returns : goal.returns
returns c = holds_settled
