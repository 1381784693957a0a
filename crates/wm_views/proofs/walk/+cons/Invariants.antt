use Rattle.std.proofs.Common.{◌≡◌, ◌+◌, ◌*◌, ◌≤◌, ◌++◌, length, min}
use Rattle.wm_forest.specs.Forest.{node_count}
use Rattle.wm_forest.specs.Look.{first_kids}
use Rattle.wm_forest.specs.SoundRow.{containers}
use Rattle.wm_views.specs.Nodes.{cons}
use Rattle.wm_views.specs.Recency.{least_place, placed_row}
use Rattle.wm_views.specs.Rows.{IsRowAt}
use Rattle.wm_views.proofs.walk.+cons.Given as goal

abbrev pub decreases-push_cons : goal.decreases-push_cons
decreases-push_cons l = 2 * node_count l.row

abbrev pub decreases-push_con : goal.decreases-push_con
decreases-push_con l = 2 * node_count (first_kids l.row.now) + 1

-- what there is so far and what is of the rest are what is of all
abbrev pub invariant-push_cons-loop-part : goal.invariant-push_cons-loop-part
invariant-push_cons-loop-part l = record {
  left : node_count l.left ≤ node_count l.fn.row;
  sound : IsRowAt containers l.left;
  views : l.views.items ++ cons l.sight.tree.now l.sight.arrangement.now.parts l.above l.left ≡ l.initial.views.items ++ cons l.sight.tree.now l.sight.arrangement.now.parts l.above l.fn.row;
  nodes : l.nodes.items ++ placed_row l.sight.tree.now.recency l.left ≡ placed_row l.sight.tree.now.recency l.fn.row;
  within : l.least ≤ length l.sight.tree.now.recency;
  least : min l.least (least_place l.sight.tree.now.recency l.left) ≡ least_place l.sight.tree.now.recency l.fn.row;
}

abbrev pub decreases-push_cons-loop-part : goal.decreases-push_cons-loop-part
decreases-push_cons-loop-part l = node_count l.left
