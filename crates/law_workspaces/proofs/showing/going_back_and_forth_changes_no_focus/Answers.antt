-- The law of going back, by the lemma that proves it.
use Rattle.law_workspaces.proofs.ReturnLaws.{comes_back}
use Rattle.law_workspaces.proofs.showing.going_back_and_forth_changes_no_focus.Goals as goal

pub returns : goal.returns
returns c = comes_back
