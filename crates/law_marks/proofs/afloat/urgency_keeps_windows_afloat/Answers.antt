-- By the lemma on that step.
use Rattle.law_marks.proofs.AfloatLast.{afloat_last, afloat_nodes}
use Rattle.law_marks.proofs.AfloatRows.{float_back, float_from}
use Rattle.law_marks.proofs.StepLemmas.{urgency_keeps}
use Rattle.law_marks.proofs.afloat.urgency_keeps_windows_afloat.Goals as goal

pub returns : goal.returns
returns c = urgency_keeps afloat_last float_from float_back afloat_nodes
