use Rattle.wm_spaces.proofs.StandLemmas.{goal_if}
use Rattle.wm_spaces.proofs.targets.find_goal.Goals as goal

pub returns-clause-there : goal.returns-clause-there
returns-clause-there c = λ s. goal_if c.args.target.now c.args.t.now c.goal_for.result c.goal_for.ensures s
