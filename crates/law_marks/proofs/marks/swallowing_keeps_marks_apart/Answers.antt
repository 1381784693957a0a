-- By the lemma on that step.
use Rattle.law_marks.proofs.MarksLast.{marks_last}
use Rattle.law_marks.proofs.StepLemmas.{swallowing_keeps}
use Rattle.law_marks.proofs.marks.swallowing_keeps_marks_apart.Goals as goal

pub returns : goal.returns
returns c = swallowing_keeps marks_last (λ t s p. p) (λ t s p. p)
