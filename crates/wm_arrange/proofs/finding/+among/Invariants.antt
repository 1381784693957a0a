use Rattle.std.proofs.Common.{◌≡◌, ◌+◌, ◌≤◌, true}
use Rattle.wm_forest.specs.Counts.{share_sum}
use Rattle.wm_forest.specs.Forest.{node_count}
use Rattle.wm_arrange.specs.Lots.{area_from, HasLots}
use Rattle.wm_arrange.specs.Slots.{IsTiledRow}
use Rattle.wm_arrange.proofs.finding.+among.Given as goal

abbrev pub decreases-among : goal.decreases-among
decreases-among l = node_count l.row

-- the area in the rest, behind the shares so far, is that in all
abbrev pub invariant-loop-part : goal.invariant-loop-part
invariant-loop-part l = record {
  left : node_count l.left ≤ node_count l.fn.row;
  few : l.before + share_sum l.left ≤ 268435456;
  sound : IsTiledRow l.left;
  fit : HasLots l.lots (l.before + share_sum l.left);
  there : area_from l.inner l.con l.lots l.first l.before l.left ≡ area_from l.inner l.con l.lots true 0 l.fn.row;
}

abbrev pub decreases-loop-part : goal.decreases-loop-part
decreases-loop-part l = node_count l.left
