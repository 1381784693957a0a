-- Moving there and back, by the lemma of that name.
use Rattle.law_commands.proofs.TurnLaws.{moves_back}
use Rattle.law_commands.proofs.turning.moving_there_and_back_changes_nothing.Goals as goal

pub returns : goal.returns
returns c = moves_back
