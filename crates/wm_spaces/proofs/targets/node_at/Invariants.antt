use Rattle.std.proofs.Common.{◌≡◌}
use Rattle.wm_forest.specs.Forest.{node_count}
use Rattle.wm_forest.specs.Look.{node_in}
use Rattle.wm_spaces.proofs.targets.node_at.Given as goal

-- the node in what is left of the row is the node in the row
abbrev pub invariant-loop-part : goal.invariant-loop-part
invariant-loop-part l = node_in l.id l.row ≡ node_in l.id l.fn.row

abbrev pub decreases-loop-part : goal.decreases-loop-part
decreases-loop-part l = node_count l.row
