use Rattle.std.proofs.Common.{ap₂, ◌∙◌}
use Rattle.wm_forest.specs.Forest.{Forest}
use Rattle.wm_forest.specs.Look.{first_floats, first_kids}
use Rattle.wm_json.specs.declared.views.NodeView.TheViews.{roll-NodeView}
use Rattle.wm_views.specs.Nodes.{space_node}
use Rattle.wm_views.proofs.NodeLemmas.{space_over}
use Rattle.wm_views.proofs.holders.push_space.Goals as goal

pub returns-in_ok-push_over-in-Ok-clause-views : goal.returns-in_ok-push_over-in-Ok-clause-views
returns-in_ok-push_over-in-Ok-clause-views c =
    let tree = c.args.sight.now.tree.now in
    let parts = c.args.sight.now.arrangement.now.parts in
    let output = c.args.output.now in
    let part = c.args.part.now in
    let space = c.in-Space.space in
    let below = c.in_ok-least.ensures in
    let shown = ap₂ (λ (k f : Forest). roll-NodeView (space_node tree parts output part space k f)) c.kids-2.ensures c.floats-2.ensures in
    space_over tree parts output part space (first_kids c.args.row.now) (first_floats c.args.row.now) c.args.views.now.items _ _ c.in-Ok.view
    c.in-Space.is c.in_ok-push_over-in-Ok.ensures (c.in-Ok.ensures ∙ shown) below.kids below.floats below.placed
