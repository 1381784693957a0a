use Rattle.std.proofs.Common.{◌≡◌}
use Rattle.wm_changes.specs.OutputChanges.{are_kept}
use Rattle.wm_forest.specs.Forest.{node_count}
use Rattle.wm_forest.specs.Look.{first_kids}
use Rattle.wm_changes.proofs.outputs.are_kept.Given as goal

-- all are kept where the rest is
abbrev pub invariant-loop-part : goal.invariant-loop-part
invariant-loop-part l = are_kept l.left (first_kids l.root) ≡ are_kept l.fn.outputs (first_kids l.root)

abbrev pub decreases-loop-part : goal.decreases-loop-part
decreases-loop-part l = node_count l.left
