use Rattle.law_script.proofs.StepReads.{step_reads}
use Rattle.law_script.proofs.StepSplits.{step_splits}
use Rattle.law_script.proofs.steps.a_line_takes_what_the_grammar_tells.Goals as goal

pub returns-clause-read : goal.returns-clause-read
returns-clause-read c = λ text step e. step_splits text step e

pub returns-clause-told : goal.returns-clause-told
returns-clause-told c = λ text step says. step_reads text step says
