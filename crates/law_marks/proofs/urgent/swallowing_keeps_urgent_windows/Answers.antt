-- By the lemma on that step.
use Rattle.law_marks.proofs.StepLemmas.{swallowing_keeps}
use Rattle.law_marks.proofs.UrgentFacts.{back, from}
use Rattle.law_marks.proofs.UrgentLast.{urgent_last}
use Rattle.law_marks.proofs.urgent.swallowing_keeps_urgent_windows.Goals as goal

pub returns : goal.returns
returns c = λ props owner natural raises c t g u. (swallowing_keeps urgent_last from back props owner natural raises c t g.sound (g.tidy, u)).1
