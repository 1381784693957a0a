-- By the lemma on that step.
use Rattle.law_marks.proofs.MarksLast.{marks_last}
use Rattle.law_marks.proofs.StepLemmas.{reserving_keeps}
use Rattle.law_marks.proofs.marks.reserving_keeps_marks_apart.Goals as goal

pub returns : goal.returns
returns c = reserving_keeps marks_last (λ t s p. p) (λ t s p. p)
