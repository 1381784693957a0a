-- By the lemma on that step.
use Rattle.law_marks.proofs.MarksLast.{marks_last}
use Rattle.law_marks.proofs.StepLemmas.{added_outputs_keep}
use Rattle.law_marks.proofs.marks.an_output_that_comes_keeps_marks_apart.Goals as goal

pub returns : goal.returns
returns c = added_outputs_keep marks_last (λ t s p. p) (λ t s p. p)
