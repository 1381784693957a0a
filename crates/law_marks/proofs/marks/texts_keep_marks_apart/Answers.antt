-- By the lemma on that step.
use Rattle.law_marks.proofs.MarksLast.{marks_last}
use Rattle.law_marks.proofs.StepLemmas.{texts_keep}
use Rattle.law_marks.proofs.marks.texts_keep_marks_apart.Goals as goal

pub returns : goal.returns
returns c = texts_keep marks_last (λ t s p. p) (λ t s p. p)
