-- By the lemma on that step.
use Rattle.law_marks.proofs.StepLemmas.{removed_outputs_keep}
use Rattle.law_marks.proofs.UrgentFacts.{back, from}
use Rattle.law_marks.proofs.UrgentLast.{urgent_last}
use Rattle.law_marks.proofs.urgent.an_output_that_goes_keeps_urgent_windows.Goals as goal

pub returns : goal.returns
returns c = λ name t g u. (removed_outputs_keep urgent_last from back name t g.sound (g.tidy, u)).1
