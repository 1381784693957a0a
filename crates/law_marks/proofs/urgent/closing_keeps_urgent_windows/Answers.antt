-- By the lemma on that step.
use Rattle.law_marks.proofs.StepLemmas.{closing_keeps}
use Rattle.law_marks.proofs.UrgentFacts.{back, from}
use Rattle.law_marks.proofs.UrgentLast.{urgent_last}
use Rattle.law_marks.proofs.urgent.closing_keeps_urgent_windows.Goals as goal

pub returns : goal.returns
returns c = λ c t g u ok. (closing_keeps urgent_last from back c t g.sound (g.tidy, u) ok).1
