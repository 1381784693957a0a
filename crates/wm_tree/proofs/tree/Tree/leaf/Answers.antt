use Rattle.wm_tree.proofs.LeafLaws.{leaf_has_none}
use Rattle.wm_tree.proofs.tree.Tree.leaf.Goals as goal

pub returns-clause-ends : goal.returns-clause-ends
returns-clause-ends c = leaf_has_none c.args.self.now c.args.con c.leaf_from.result c.leaf_from.ensures
