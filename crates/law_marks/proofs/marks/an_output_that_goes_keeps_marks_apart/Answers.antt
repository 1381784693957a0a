-- By the lemma on that step.
use Rattle.law_marks.proofs.MarksLast.{marks_last}
use Rattle.law_marks.proofs.StepLemmas.{removed_outputs_keep}
use Rattle.law_marks.proofs.marks.an_output_that_goes_keeps_marks_apart.Goals as goal

pub returns : goal.returns
returns c = removed_outputs_keep marks_last (λ t s p. p) (λ t s p. p)
