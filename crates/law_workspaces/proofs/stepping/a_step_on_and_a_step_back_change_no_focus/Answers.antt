-- The law of steps, by the lemma that proves it.
use Rattle.law_workspaces.proofs.StepLaws.{steps_back}
use Rattle.law_workspaces.proofs.stepping.a_step_on_and_a_step_back_change_no_focus.Goals as goal

pub returns : goal.returns
returns c = steps_back
