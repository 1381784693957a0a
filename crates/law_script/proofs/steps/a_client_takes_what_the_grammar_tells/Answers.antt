use Rattle.law_script.proofs.Laws.{client_reads, client_splits}
use Rattle.law_script.proofs.steps.a_client_takes_what_the_grammar_tells.Goals as goal

pub returns-clause-read : goal.returns-clause-read
returns-clause-read c = λ text step e. client_splits text step e

pub returns-clause-told : goal.returns-clause-told
returns-clause-told c = λ text step says. client_reads text step says
