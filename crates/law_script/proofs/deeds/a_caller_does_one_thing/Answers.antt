use Rattle.law_script.proofs.Laws.{one_deed}
use Rattle.law_script.proofs.deeds.a_caller_does_one_thing.Goals as goal

pub returns : goal.returns
returns c = λ text a b utf8 first second. one_deed text a b utf8 first second
