use Rattle.wm_forest.proofs.PassLemmas.{change_left}
use Rattle.wm_forest.proofs.row.Row.change.Goals as goal

pub returns-clause-left : goal.returns-clause-left
returns-clause-left g c = rw c.alter.ensures.left (change_left c.args.edit c.args.id c.args.self.now)
