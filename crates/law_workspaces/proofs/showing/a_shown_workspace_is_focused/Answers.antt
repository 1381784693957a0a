-- The law of showing, by the lemma that proves it.
use Rattle.law_workspaces.proofs.ShowLaws.{shows_it}
use Rattle.law_workspaces.proofs.showing.a_shown_workspace_is_focused.Goals as goal

pub returns : goal.returns
returns c = shows_it
