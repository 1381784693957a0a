-- By the lemma on that step.
use Rattle.law_marks.proofs.AfloatLast.{afloat_last}
use Rattle.law_marks.proofs.AfloatRows.{float_back, float_from}
use Rattle.law_marks.proofs.StepLemmas.{added_outputs_keep}
use Rattle.law_marks.proofs.afloat.an_output_that_comes_keeps_windows_afloat.Goals as goal

pub returns : goal.returns
returns c = added_outputs_keep afloat_last float_from float_back
