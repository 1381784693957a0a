-- The law of sending, by the lemma that proves it.
use Rattle.law_workspaces.proofs.SendLaws.{sends_in_order}
use Rattle.law_workspaces.proofs.sending.a_sending_keeps_recency.Goals as goal

pub returns : goal.returns
returns c = sends_in_order
