use Rattle.wm_spaces.proofs.StandLemmas.{home_output}
use Rattle.wm_spaces.proofs.targets.home.Goals as goal

pub returns-clause-listed : goal.returns-clause-listed
returns-clause-listed c = λ s. rw c.home_of.ensures (home_output c.args.name.now c.args.homes.now c.args.t.now s)
