-- The law of sending to a new workspace, by the lemma that proves it.
use Rattle.law_workspaces.proofs.SendLaws.{sends_new_in_order}
use Rattle.law_workspaces.proofs.sending.a_sending_to_a_new_workspace_keeps_recency.Goals as goal

pub returns : goal.returns
returns c = sends_new_in_order
