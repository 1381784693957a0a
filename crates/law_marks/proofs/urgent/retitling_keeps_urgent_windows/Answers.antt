-- By the lemma on that step.
use Rattle.law_marks.proofs.StepLemmas.{retitling_keeps}
use Rattle.law_marks.proofs.UrgentFacts.{back, from}
use Rattle.law_marks.proofs.UrgentLast.{urgent_last}
use Rattle.law_marks.proofs.urgent.retitling_keeps_urgent_windows.Goals as goal

pub returns : goal.returns
returns c = λ c title t g u. (retitling_keeps urgent_last from back c title t g.sound (g.tidy, u)).1
