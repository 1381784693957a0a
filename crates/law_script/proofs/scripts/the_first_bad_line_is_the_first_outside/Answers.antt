use Rattle.law_script.proofs.ScriptLemmas.{first_outside_splits, first_outside_reads}
use Rattle.law_script.proofs.scripts.the_first_bad_line_is_the_first_outside.Goals as goal

pub returns-clause-read : goal.returns-clause-read
returns-clause-read c = λ bytes line e. first_outside_splits bytes line e

pub returns-clause-told : goal.returns-clause-told
returns-clause-told c = λ bytes line is. first_outside_reads bytes line is
