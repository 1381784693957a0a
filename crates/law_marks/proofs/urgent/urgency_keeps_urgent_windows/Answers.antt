-- By the lemma on that step.
use Rattle.law_marks.proofs.UrgentSteps.{urging_keeps}
use Rattle.law_marks.proofs.urgent.urgency_keeps_urgent_windows.Goals as goal

pub returns : goal.returns
returns c = urging_keeps
