use Rattle.law_script.proofs.ScriptLemmas.{script_splits, script_reads}
use Rattle.law_script.proofs.scripts.a_script_is_its_lines.Goals as goal

pub returns-clause-read : goal.returns-clause-read
returns-clause-read c = λ bytes s e. script_splits bytes s e

pub returns-clause-told : goal.returns-clause-told
returns-clause-told c = λ bytes s are. script_reads bytes s are
