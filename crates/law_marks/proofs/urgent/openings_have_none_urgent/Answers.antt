-- By the lemma on that step.
use Rattle.law_marks.proofs.UrgentSteps.{openings_urgent}
use Rattle.law_marks.proofs.urgent.openings_have_none_urgent.Goals as goal

pub returns : goal.returns
returns c = openings_urgent
