use Rattle.std.proofs.Common.{◌≡◌}
use Rattle.std.specs.Option.{option_or}
use Rattle.wm_forest.specs.Forest.{node_count}
use Rattle.wm_shared.specs.Neighbours.{last_id}
use Rattle.wm_shared.proofs.neighbours.last_id.Given as goal

-- the last one of what is left, or else the last one so far, is the last of all
abbrev pub invariant-loop-part : goal.invariant-loop-part
invariant-loop-part l = option_or (last_id l.row) l.last ≡ last_id l.fn.row

abbrev pub decreases-loop-part : goal.decreases-loop-part
decreases-loop-part l = node_count l.row
