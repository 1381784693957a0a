-- By the lemma on that step.
use Rattle.law_marks.proofs.MarksLast.{opening_differs}
use Rattle.law_marks.proofs.marks.openings_have_marks_apart.Goals as goal

pub returns : goal.returns
returns c = opening_differs
