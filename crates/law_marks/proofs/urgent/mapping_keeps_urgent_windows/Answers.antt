-- By the lemma on that step.
use Rattle.law_marks.proofs.StepLemmas.{mapping_keeps}
use Rattle.law_marks.proofs.UrgentFacts.{back, from}
use Rattle.law_marks.proofs.UrgentLast.{urgent_last}
use Rattle.law_marks.proofs.urgent.mapping_keeps_urgent_windows.Goals as goal

pub returns : goal.returns
returns c = λ who props natural raises c t g u fits. (mapping_keeps urgent_last from back who props natural raises c t g.sound (g.tidy, u) fits).1
