use Rattle.std.proofs.Common.{◌≡◌, ◌++◌, true}
use Rattle.wm_forest.specs.Forest.{node_count}
use Rattle.wm_views.specs.Outputs.{outputs_from}
use Rattle.wm_views.proofs.outputs.push_outputs.Given as goal

-- the outputs so far and those of the rest are those of all
abbrev pub invariant-loop-part : goal.invariant-loop-part
invariant-loop-part l = l.views.items ++ outputs_from l.first l.left ≡ l.initial.views.items ++ outputs_from true l.fn.row

abbrev pub decreases-loop-part : goal.decreases-loop-part
decreases-loop-part l = node_count l.left
