use Rattle.law_lines.proofs.AnswerLemmas.{reads_back}
use Rattle.law_lines.proofs.answers.a_printed_answer_reads_back.Goals as goal

pub returns : goal.returns
returns c = λ a plain. reads_back a plain
