use Rattle.std.proofs.Common.{◌≡◌}
use Rattle.wm_changes.specs.Facts.{put_spaces, spaces_in}
use Rattle.wm_forest.specs.Forest.{node_count}
use Rattle.wm_changes.proofs.spaces.gather_outputs.Given as goal

-- those of the rest, put in behind those so far, give all
abbrev pub invariant-loop-part : goal.invariant-loop-part
invariant-loop-part l = put_spaces (spaces_in l.left) l.map.entries ≡ put_spaces (spaces_in l.fn.row) l.initial.map.entries

abbrev pub decreases-loop-part : goal.decreases-loop-part
decreases-loop-part l = node_count l.left
