use Rattle.law_script.proofs.DeedLemmas.{deed_reads, deed_splits}
use Rattle.law_script.proofs.deeds.a_caller_does_what_the_grammar_tells.Goals as goal

pub returns-clause-read : goal.returns-clause-read
returns-clause-read c = λ text deed e. deed_splits text deed e

pub returns-clause-told : goal.returns-clause-told
returns-clause-told c = λ text deed utf8 says. deed_reads text deed utf8 says
