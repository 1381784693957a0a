use Rattle.std.proofs.Common.{◌≡◌, ◌+◌, ◌*◌, ◌≤◌, ◌++◌, true}
use Rattle.wm_forest.specs.Counts.{share_sum}
use Rattle.wm_forest.specs.Forest.{node_count}
use Rattle.wm_forest.specs.Look.{first_kids}
use Rattle.wm_arrange.specs.Choices.{KnowsRow}
use Rattle.wm_arrange.specs.Maps.{value_at}
use Rattle.wm_arrange.specs.Scene.{seen}
use Rattle.wm_arrange.specs.Slots.{parts_from, HasSlots, IsTiledRow}
use Rattle.wm_arrange.proofs.children.+place.Given as goal

abbrev pub decreases-place_kids : goal.decreases-place_kids
decreases-place_kids l = 3 * node_count (first_kids l.row.now) + 1

abbrev pub decreases-place_row : goal.decreases-place_row
decreases-place_row l = 3 * node_count l.row

abbrev pub decreases-place_child : goal.decreases-place_child
decreases-place_child l = 3 * node_count (first_kids l.row.now) + 2

-- the parts so far and those of the rest, behind the shares so far, are those of all
abbrev pub invariant-place_row-loop-part : goal.invariant-place_row-loop-part
invariant-place_row-loop-part l = record {
  left : node_count l.left ≤ node_count l.fn.row;
  placed : l.parts.items ++ parts_from (seen l.scene) l.slots l.first l.before l.left ≡ l.initial.parts.items ++ parts_from (seen l.scene) l.slots true 0 l.fn.row;
  few : l.before + share_sum l.left ≤ 268435456;
  sound : IsTiledRow l.left;
  known : KnowsRow (value_at l.scene.chosen.now) l.scene.tree.now.recency l.left;
  fit : HasSlots l.slots (l.before + share_sum l.left);
}

abbrev pub decreases-place_row-loop-part : goal.decreases-place_row-loop-part
decreases-place_row-loop-part l = node_count l.left
