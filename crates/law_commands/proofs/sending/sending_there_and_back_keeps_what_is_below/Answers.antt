use Rattle.law_commands.proofs.SendLaws.{sends_back}
use Rattle.law_commands.proofs.sending.sending_there_and_back_keeps_what_is_below.Goals as goal

pub returns : goal.returns
returns c = sends_back
