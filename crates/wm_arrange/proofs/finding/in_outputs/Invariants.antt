use Rattle.std.proofs.Common.{◌≡◌, true}
use Rattle.wm_forest.specs.Forest.{node_count}
use Rattle.wm_forest.specs.SoundRow.{outputs, IsSoundRow}
use Rattle.wm_arrange.specs.AreaOf.{area_in_outputs}
use Rattle.wm_arrange.proofs.finding.in_outputs.Given as goal

-- the area in the rest is that in all
abbrev pub invariant-loop-part : goal.invariant-loop-part
invariant-loop-part l = record {
  sound : IsSoundRow outputs true 32 l.left;
  there : area_in_outputs l.con l.left ≡ area_in_outputs l.con l.fn.row;
}

abbrev pub decreases-loop-part : goal.decreases-loop-part
decreases-loop-part l = node_count l.left
