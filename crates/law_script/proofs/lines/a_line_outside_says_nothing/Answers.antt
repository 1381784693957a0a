use Rattle.law_script.proofs.LineLemmas.{none_outside, outside_none}
use Rattle.law_script.proofs.lines.a_line_outside_says_nothing.Goals as goal

pub returns-clause-read : goal.returns-clause-read
returns-clause-read c = λ text none said. none_outside text none said

pub returns-clause-told : goal.returns-clause-told
returns-clause-told c = λ text outside. outside_none text outside
