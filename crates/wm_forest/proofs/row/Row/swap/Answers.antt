use Rattle.std.proofs.Common.{◌∙◌, ap}
use Rattle.wm_forest.specs.Row.{alone}
use Rattle.wm_forest.proofs.PassLemmas.{swap_taken}
use Rattle.wm_forest.proofs.row.Row.swap.Goals as goal

pub returns-clause-taken : goal.returns-clause-taken
returns-clause-taken c = ap alone c.alter.ensures.left ∙ swap_taken c.args.spare.now c.args.id c.args.self.now
