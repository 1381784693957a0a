-- By the lemma on that step.
use Rattle.law_marks.proofs.AfloatLast.{afloat_last}
use Rattle.law_marks.proofs.AfloatRows.{float_back, float_from}
use Rattle.law_marks.proofs.StepLemmas.{swallowing_keeps}
use Rattle.law_marks.proofs.afloat.swallowing_keeps_windows_afloat.Goals as goal

pub returns : goal.returns
returns c = swallowing_keeps afloat_last float_from float_back
