-- The law of moving workspaces, by the lemma that proves it.
use Rattle.law_workspaces.proofs.MoveLaws.{moves_space}
use Rattle.law_workspaces.proofs.moving.a_moved_workspace_is_last_and_shown.Goals as goal

pub returns : goal.returns
returns c = moves_space
