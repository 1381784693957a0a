use Rattle.wm_cut.proofs.CutLemmas.{fronts}
use Rattle.wm_cut.proofs.laws.first_line_comes_first.Goals as goal

pub returns-clause-lines : goal.returns-clause-lines
returns-clause-lines c = λ bytes line later first. (fronts bytes line later first).lines

pub returns-clause-rest : goal.returns-clause-rest
returns-clause-rest c = λ bytes line later first. (fronts bytes line later first).rest
