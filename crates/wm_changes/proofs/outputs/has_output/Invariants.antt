use Rattle.std.proofs.Common.{◌≡◌}
use Rattle.wm_changes.specs.OutputChanges.{has_output}
use Rattle.wm_forest.specs.Forest.{node_count}
use Rattle.wm_changes.proofs.outputs.has_output.Given as goal

-- the rest has the output where all have it
abbrev pub invariant-loop-part : goal.invariant-loop-part
invariant-loop-part l = has_output l.id l.output l.left ≡ has_output l.id l.output l.fn.row

abbrev pub decreases-loop-part : goal.decreases-loop-part
decreases-loop-part l = node_count l.left
