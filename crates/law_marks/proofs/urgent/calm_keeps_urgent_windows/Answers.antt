-- By the lemma on that step.
use Rattle.law_marks.proofs.UrgentSteps.{calming_keeps}
use Rattle.law_marks.proofs.urgent.calm_keeps_urgent_windows.Goals as goal

pub returns : goal.returns
returns c = calming_keeps
