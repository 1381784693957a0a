-- By the lemma on that step.
use Rattle.law_marks.proofs.AfloatRows.{openings_float}
use Rattle.law_marks.proofs.afloat.openings_float_windows.Goals as goal

pub returns : goal.returns
returns c = openings_float
