-- By the lemma of that name.
use Rattle.wm_opens.proofs.TextLemmas.{holds_outcome}
use Rattle.wm_opens.proofs.texts.texts_keep_windows.Goals as goal

pub returns : goal.returns
returns c = holds_outcome
