use Rattle.std.proofs.Common.{◌≡◌, true}
use Rattle.wm_forest.specs.Forest.{node_count}
use Rattle.wm_forest.specs.SoundRow.{spaces, IsSoundRow}
use Rattle.wm_arrange.specs.AreaOf.{area_in_spaces}
use Rattle.wm_arrange.proofs.finding.in_spaces.Given as goal

-- the area in the rest is that in all
abbrev pub invariant-loop-part : goal.invariant-loop-part
invariant-loop-part l = record {
  sound : IsSoundRow spaces true 32 l.left;
  there : area_in_spaces l.con l.output l.left ≡ area_in_spaces l.con l.output l.fn.row;
}

abbrev pub decreases-loop-part : goal.decreases-loop-part
decreases-loop-part l = node_count l.left
