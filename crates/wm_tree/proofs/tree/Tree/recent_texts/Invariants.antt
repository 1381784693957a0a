use Rattle.std.proofs.Common.{length}
use Rattle.wm_tree.proofs.tree.Tree.recent_texts.Given as goal

abbrev pub decreases-loop-rest : goal.decreases-loop-rest
decreases-loop-rest l = length l.rest
