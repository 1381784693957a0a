use Rattle.std.proofs.Common.{◌≡◌, ◌++◌, true}
use Rattle.wm_forest.specs.Forest.{node_count}
use Rattle.wm_forest.specs.SoundRow.{IsSoundRow, outputs}
use Rattle.wm_arrange.specs.Arranged.{outputs_parts}
use Rattle.wm_arrange.specs.Choices.{KnowsOutputs}
use Rattle.wm_arrange.specs.Maps.{value_at}
use Rattle.wm_arrange.proofs.arranging.place_outputs.Given as goal

-- the parts so far and those of the rest are those of all
abbrev pub invariant-loop-parts : goal.invariant-loop-parts
invariant-loop-parts l = record {
  placed : l.parts.items ++ outputs_parts l.scene.tree.now l.scene.focused l.left ≡ l.initial.parts.items ++ outputs_parts l.scene.tree.now l.scene.focused l.fn.row;
  sound : IsSoundRow outputs true 32 l.left;
  known : KnowsOutputs (value_at l.scene.chosen.now) l.scene.tree.now.recency l.left;
}

abbrev pub decreases-loop-parts : goal.decreases-loop-parts
decreases-loop-parts l = node_count l.left
