-- By the lemma on that step.
use Rattle.law_marks.proofs.MarksLast.{marks_last}
use Rattle.law_marks.proofs.StepLemmas.{mapping_keeps}
use Rattle.law_marks.proofs.marks.mapping_keeps_marks_apart.Goals as goal

pub returns : goal.returns
returns c = mapping_keeps marks_last (λ t s p. p) (λ t s p. p)
