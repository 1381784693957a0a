use Rattle.wm_cut.proofs.CutLemmas.{joins}
use Rattle.wm_cut.proofs.laws.pieces_are_one.Goals as goal

pub returns-clause-lines : goal.returns-clause-lines
returns-clause-lines c = λ bytes more. (joins bytes more).lines

pub returns-clause-rest : goal.returns-clause-rest
returns-clause-rest c = λ bytes more. (joins bytes more).rest
