-- By the lemma of that name.
use Rattle.law_desk.proofs.MarkLemmas.{marks_apart}
use Rattle.law_desk.proofs.histories_keep_marks_apart.Goals as goal

pub returns : goal.returns
returns c = marks_apart
