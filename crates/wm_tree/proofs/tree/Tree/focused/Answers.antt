use Rattle.std.proofs.Common.{arith, rules}
use Rattle.std.proofs.lemmas.Grind.{common_steps}
use Rattle.wm_forest.proofs.ForestLemmas.{first_held_end}
use Rattle.wm_tree.proofs.FocusLemmas.{focus_by}
use Rattle.wm_tree.proofs.tree.Tree.focused.Goals as goal

pub returns-in-Some-clause-there : goal.returns-in-Some-clause-there
returns-in-Some-clause-there c =
    λ s. focus_by c.args.self.now _ (first_of (search rules, grind (arith, common_steps))) s

pub returns-in-None-clause-there : goal.returns-in-None-clause-there
returns-in-None-clause-there c =
    λ s. focus_by c.args.self.now _ (grind (arith, first_held_end)) s
