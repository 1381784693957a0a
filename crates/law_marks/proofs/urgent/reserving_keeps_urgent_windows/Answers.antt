-- By the lemma on that step.
use Rattle.law_marks.proofs.StepLemmas.{reserving_keeps}
use Rattle.law_marks.proofs.UrgentFacts.{back, from}
use Rattle.law_marks.proofs.UrgentLast.{urgent_last}
use Rattle.law_marks.proofs.urgent.reserving_keeps_urgent_windows.Goals as goal

pub returns : goal.returns
returns c = λ o edges t g u. (reserving_keeps urgent_last from back o edges t g.sound (g.tidy, u)).1
