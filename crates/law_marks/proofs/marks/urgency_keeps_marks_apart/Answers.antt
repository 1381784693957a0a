-- By the lemma on that step.
use Rattle.law_marks.proofs.MarksLast.{marks_last, marks_nodes}
use Rattle.law_marks.proofs.StepLemmas.{urgency_keeps}
use Rattle.law_marks.proofs.marks.urgency_keeps_marks_apart.Goals as goal

pub returns : goal.returns
returns c = urgency_keeps marks_last (λ t s p. p) (λ t s p. p) marks_nodes
