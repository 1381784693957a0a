use Rattle.std.proofs.Common.{◌≡◌}
use Rattle.wm_forest.specs.Forest.{node_count}
use Rattle.wm_shared.specs.Keys.{least, lesser}
use Rattle.wm_shared.specs.Outputs.{keys_beyond}
use Rattle.wm_shared.proofs.outputs.nearest.Given as goal

-- the best so far and the best of the rest are the best of all
abbrev pub invariant-loop-part : goal.invariant-loop-part
invariant-loop-part l = lesser l.best (least (keys_beyond l.d l.a l.row)) ≡ least (keys_beyond l.d l.a l.fn.outputs)

abbrev pub decreases-loop-part : goal.decreases-loop-part
decreases-loop-part l = node_count l.row
