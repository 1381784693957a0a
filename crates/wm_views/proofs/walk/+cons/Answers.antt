use Rattle.std.proofs.Common.{refl, ap, ◌∙◌}
use Rattle.wm_forest.specs.Forest.{Forest}
use Rattle.wm_forest.specs.Look.{first_kids}
use Rattle.wm_json.specs.declared.views.NodeView.TheViews.{roll-NodeView}
use Rattle.wm_views.specs.Nodes.{con_node}
use Rattle.wm_views.specs.Recency.{placed_row, put_nodes}
use Rattle.wm_views.proofs.NodeLemmas.{con_over}
use Rattle.wm_views.proofs.walk.+cons.Goals as goal

pub push_con-returns-in_ok-push_over-in-Ok-clause-views : goal.push_con-returns-in_ok-push_over-in-Ok-clause-views
push_con-returns-in_ok-push_over-in-Ok-clause-views t c =
    let tree = c.args.sight.now.tree.now in
    let parts = c.args.sight.now.arrangement.now.parts in
    let kids = first_kids c.args.row.now in
    let con = c.in-Con.con in
    let nodes = c.in_ok-least.ensures.views ∙ rw c.new-below.ensures.kids (rw c.over_kids-over.ensures (rw (c.kids-kids.ensures, c.kids-2.ensures) refl)) in
    let placed = c.in_ok-least.ensures.placed ∙ (ap (λ (f : Forest). put_nodes (placed_row tree.recency f) c.new-below.result.placed.items) c.kids-2.ensures ∙ ap (put_nodes (placed_row tree.recency kids)) c.new-below.ensures.placed) in
    con_over tree parts c.args.above.now c.args.part.now con kids c.args.views.now.items _ (record { kids = c.push_cons.new.views; floats = c.new-below.result.floats; placed = c.push_cons.new.placed }) c.in-Ok.view
    c.in-Con.is c.in_ok-push_over-in-Ok.ensures (c.in-Ok.ensures ∙ ap (λ (f : Forest). roll-NodeView (con_node tree parts c.args.above.now c.args.part.now con con.kind f)) c.kids-kids.ensures) nodes c.new-below.ensures.floats placed
