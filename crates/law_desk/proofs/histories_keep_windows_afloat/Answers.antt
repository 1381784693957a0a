-- By the lemma of that name.
use Rattle.law_desk.proofs.MarkLemmas.{windows_afloat}
use Rattle.law_desk.proofs.histories_keep_windows_afloat.Goals as goal

pub returns : goal.returns
returns c = windows_afloat
