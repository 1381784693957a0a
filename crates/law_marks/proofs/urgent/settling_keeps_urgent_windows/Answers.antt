-- By the lemma on that step.
use Rattle.law_marks.proofs.StepLemmas.{settling_keeps}
use Rattle.law_marks.proofs.UrgentFacts.{back, from}
use Rattle.law_marks.proofs.UrgentLast.{urgent_last}
use Rattle.law_marks.proofs.urgent.settling_keeps_urgent_windows.Goals as goal

pub returns : goal.returns
returns c = λ t g u. (settling_keeps urgent_last from back t g.sound (g.tidy, u)).1
