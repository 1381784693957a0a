use Rattle.law_lines.proofs.ReplyLemmas.{told_once}
use Rattle.law_lines.proofs.answers.a_printed_answer_is_no_other.Goals as goal

pub returns : goal.returns
returns c = λ a b fit_a fit_b e. told_once a b fit_a fit_b e
