-- By the lemma of that name.
use Rattle.law_desk.proofs.MarkLemmas.{urgent_windows}
use Rattle.law_desk.proofs.histories_keep_urgent_windows.Goals as goal

pub returns : goal.returns
returns c = urgent_windows
