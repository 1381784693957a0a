-- The law of renaming, by the lemma that proves it.
use Rattle.law_workspaces.proofs.RenameLaws.{renames}
use Rattle.law_workspaces.proofs.renaming.a_renamed_workspace_has_its_name.Goals as goal

pub returns : goal.returns
returns c = renames
