use Rattle.std.proofs.Common.{arith, rules}
use Rattle.std.proofs.lemmas.Grind.{common_steps}
use Rattle.wm_tree.proofs.AlongLemmas.{along_by, ones_by}
use Rattle.wm_forest.proofs.ForestLemmas.{append_end}
use Rattle.wm_tree.proofs.tree.Tree.go_along.Goals as goal

pub returns-clause-sound : goal.returns-clause-sound
returns-clause-sound c = λ two s. along_by c.args.from c.args.to c.args.self.now _ (first_of (search rules, grind (arith, common_steps, append_end))) two s

pub returns-clause-kept : goal.returns-clause-kept
returns-clause-kept c = λ two s i. ones_by c.args.from c.args.to c.args.self.now _ (first_of (search rules, grind (arith, common_steps, append_end))) two s i
