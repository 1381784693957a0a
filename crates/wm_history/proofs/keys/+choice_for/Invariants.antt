use Rattle.std.proofs.Common.{length}
use Rattle.wm_history.proofs.keys.+choice_for.Given as goal

abbrev pub decreases-choice_for : goal.decreases-choice_for
decreases-choice_for l = length l.choices.now
