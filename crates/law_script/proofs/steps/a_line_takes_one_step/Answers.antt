use Rattle.law_script.proofs.Laws.{one_step}
use Rattle.law_script.proofs.steps.a_line_takes_one_step.Goals as goal

pub returns : goal.returns
returns c = λ text a b first second. one_step text a b first second
