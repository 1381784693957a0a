use Rattle.std.proofs.Common.{◌≡◌, ◌+◌}
use Rattle.wm_forest.specs.Counts.{row_length}
use Rattle.wm_forest.specs.Forest.{node_count}
use Rattle.wm_arrange.proofs.rows.count.Given as goal

-- the nodes so far and those of the rest are all
abbrev pub invariant-loop-n : goal.invariant-loop-n
invariant-loop-n l = l.n + row_length l.left ≡ row_length l.row

abbrev pub decreases-loop-n : goal.decreases-loop-n
decreases-loop-n l = node_count l.left
