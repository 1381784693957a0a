use Rattle.wm_habits.proofs.SpeakLemmas.{heard_as_one}
use Rattle.wm_habits.proofs.laws.pieces_are_heard_as_one.Goals as goal

pub returns : goal.returns
returns c = heard_as_one
