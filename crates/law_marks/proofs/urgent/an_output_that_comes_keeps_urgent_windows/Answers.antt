-- By the lemma on that step.
use Rattle.law_marks.proofs.StepLemmas.{added_outputs_keep}
use Rattle.law_marks.proofs.UrgentFacts.{back, from}
use Rattle.law_marks.proofs.UrgentLast.{urgent_last}
use Rattle.law_marks.proofs.urgent.an_output_that_comes_keeps_urgent_windows.Goals as goal

pub returns : goal.returns
returns c = λ plan t g u fine sound. (added_outputs_keep urgent_last from back plan t g.sound (g.tidy, u) fine sound).1
