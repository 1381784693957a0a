use Rattle.std.proofs.Common.{◌≡◌}
use Rattle.wm_forest.specs.Forest.{node_count}
use Rattle.wm_views.specs.Outputs.{name_in}
use Rattle.wm_views.proofs.outputs.name_in.Given as goal

-- the name in the rest is that in all
abbrev pub invariant-loop-part : goal.invariant-loop-part
invariant-loop-part l = name_in l.id l.left ≡ name_in l.id l.fn.row

abbrev pub decreases-loop-part : goal.decreases-loop-part
decreases-loop-part l = node_count l.left
