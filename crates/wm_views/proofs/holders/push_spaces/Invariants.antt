use Rattle.std.proofs.Common.{◌≡◌, ◌≤◌, ◌++◌, length, min}
use Rattle.wm_forest.specs.Forest.{node_count}
use Rattle.wm_forest.specs.SoundRow.{spaces}
use Rattle.wm_views.specs.Nodes.{spaces_under}
use Rattle.wm_views.specs.Recency.{least_place, placed_row}
use Rattle.wm_views.specs.Rows.{IsRowAt}
use Rattle.wm_views.proofs.holders.push_spaces.Given as goal

-- what there is so far and what is of the rest are what is of all
abbrev pub invariant-loop-part : goal.invariant-loop-part
invariant-loop-part l = record {
  sound : IsRowAt spaces l.left;
  views : l.views.items ++ spaces_under l.sight.tree.now l.sight.arrangement.now.parts l.output l.left ≡ l.initial.views.items ++ spaces_under l.sight.tree.now l.sight.arrangement.now.parts l.output l.fn.row;
  nodes : l.nodes.items ++ placed_row l.sight.tree.now.recency l.left ≡ placed_row l.sight.tree.now.recency l.fn.row;
  within : l.least ≤ length l.sight.tree.now.recency;
  least : min l.least (least_place l.sight.tree.now.recency l.left) ≡ least_place l.sight.tree.now.recency l.fn.row;
}

abbrev pub decreases-loop-part : goal.decreases-loop-part
decreases-loop-part l = node_count l.left
