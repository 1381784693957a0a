-- By the lemma on that step.
use Rattle.law_marks.proofs.AfloatLast.{afloat_last}
use Rattle.law_marks.proofs.AfloatRows.{float_back, float_from}
use Rattle.law_marks.proofs.StepLemmas.{closing_keeps}
use Rattle.law_marks.proofs.afloat.closing_keeps_windows_afloat.Goals as goal

pub returns : goal.returns
returns c = closing_keeps afloat_last float_from float_back
