use Rattle.law_script.proofs.LineLemmas.{line_splits, line_reads}
use Rattle.law_script.proofs.lines.a_line_says_what_the_grammar_tells.Goals as goal

pub returns-clause-read : goal.returns-clause-read
returns-clause-read c = λ text said e. line_splits text said e

pub returns-clause-told : goal.returns-clause-told
returns-clause-told c = λ text said says. line_reads text said says
