use Rattle.wm_habits.proofs.LateLemmas.{as_late}
use Rattle.wm_habits.proofs.laws.answers_come_as_late_as_the_habit.Goals as goal

pub returns : goal.returns
returns c = as_late
