use Rattle.std.proofs.Common.{◌≡◌, ◌++◌}
use Rattle.wm_forest.specs.Forest.{node_count}
use Rattle.wm_arrange.specs.Arranged.{floats_parts}
use Rattle.wm_arrange.specs.Scene.{seen}
use Rattle.wm_arrange.specs.Slots.{IsFloatRow}
use Rattle.wm_arrange.proofs.children.place_floats.Given as goal

-- the parts so far and those of the rest are those of all
abbrev pub invariant-loop-part : goal.invariant-loop-part
invariant-loop-part l = record {
  placed : l.parts.items ++ floats_parts (seen l.scene) l.row ≡ l.initial.parts.items ++ floats_parts (seen l.scene) l.fn.floats;
  sound : IsFloatRow l.row;
}

abbrev pub decreases-loop-part : goal.decreases-loop-part
decreases-loop-part l = node_count l.row
