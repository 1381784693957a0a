-- By the lemma on that step.
use Rattle.law_marks.proofs.MarksLast.{marks_last}
use Rattle.law_marks.proofs.StepLemmas.{closing_keeps}
use Rattle.law_marks.proofs.marks.closing_keeps_marks_apart.Goals as goal

pub returns : goal.returns
returns c = closing_keeps marks_last (λ t s p. p) (λ t s p. p)
