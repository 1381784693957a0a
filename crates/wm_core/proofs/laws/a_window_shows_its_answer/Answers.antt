use Rattle.wm_core.proofs.LawLemmas.{shows_its_answer}
use Rattle.wm_core.proofs.laws.a_window_shows_its_answer.Goals as goal

pub returns : goal.returns
returns c = shows_its_answer
