-- The law of steps in settled trees, by the lemma that proves it.
use Rattle.law_workspaces.proofs.SettledSteps.{steps_back_settled}
use Rattle.law_workspaces.proofs.settling.a_step_on_and_a_step_back_settled_change_no_focus.Goals as goal

pub returns : goal.returns
returns c = steps_back_settled
