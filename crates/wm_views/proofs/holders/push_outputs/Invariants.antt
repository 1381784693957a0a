use Rattle.std.proofs.Common.{◌≡◌, ◌++◌, true}
use Rattle.wm_forest.specs.Forest.{node_count}
use Rattle.wm_forest.specs.SoundRow.{outputs}
use Rattle.wm_views.specs.Nodes.{outputs_under}
use Rattle.wm_views.specs.Recency.{placed_row}
use Rattle.wm_views.specs.Rows.{IsRowAt}
use Rattle.wm_views.proofs.holders.push_outputs.Given as goal

-- what there is so far and what is of the rest are what is of all
abbrev pub invariant-loop-part : goal.invariant-loop-part
invariant-loop-part l = record {
  sound : IsRowAt outputs l.left;
  views : l.views.items ++ outputs_under l.sight.tree.now l.sight.arrangement.now.parts l.first l.left ≡ l.initial.views.items ++ outputs_under l.sight.tree.now l.sight.arrangement.now.parts true l.fn.row;
  nodes : l.nodes.items ++ placed_row l.sight.tree.now.recency l.left ≡ placed_row l.sight.tree.now.recency l.fn.row;
}

abbrev pub decreases-loop-part : goal.decreases-loop-part
decreases-loop-part l = node_count l.left
