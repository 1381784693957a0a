use Rattle.std.proofs.Common.{arith, rules}
use Rattle.std.proofs.lemmas.Grind.{common_steps}
use Rattle.wm_tree.proofs.HoldLaws.{parent_holds}
use Rattle.wm_tree.proofs.tree.Tree.parent.Goals as goal

pub returns-clause-holds : goal.returns-clause-holds
returns-clause-holds c = λ s. parent_holds c.args.self.now c.args.con _ (first_of (search rules, grind (arith, common_steps))) s
