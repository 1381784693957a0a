use Rattle.law_script.proofs.LineLemmas.{one_thing}
use Rattle.law_script.proofs.lines.a_line_says_one_thing.Goals as goal

pub returns : goal.returns
returns c = λ text a b first second. one_thing text a b first second
