-- By the lemma on that step.
use Rattle.law_marks.proofs.StepLemmas.{texts_keep}
use Rattle.law_marks.proofs.UrgentFacts.{back, from}
use Rattle.law_marks.proofs.UrgentLast.{urgent_last}
use Rattle.law_marks.proofs.urgent.texts_keep_urgent_windows.Goals as goal

pub returns : goal.returns
returns c = λ env verdict subject t g u. (texts_keep urgent_last from back env verdict subject t g.sound (g.tidy, u)).1
