-- Views with the rows below their nodes.
use Rattle.std.proofs.Common.{◌≡◌, ℕ, List, [], ◌∷◌, ◌++◌, map, refl, sym, ap, ◌∙◌}
use Rattle.wm_arrange.specs.declared.parts.Placed.{Placed}
use Rattle.wm_forest.specs.declared.part.ConPart.{ConPart}
use Rattle.wm_forest.specs.declared.part.NodeKind.TheVariants.{Con, Space}
use Rattle.wm_forest.specs.declared.part.OutputPart.{OutputPart}
use Rattle.wm_forest.specs.declared.part.Part.{Part}
use Rattle.wm_forest.specs.declared.part.SpacePart.{SpacePart}
use Rattle.wm_forest.specs.Forest.{Forest, end}
use Rattle.wm_forest.specs.Look.{con_kind, space_kind}
use Rattle.wm_json.specs.declared.views.NodeView.{NodeView}
use Rattle.wm_json.specs.declared.views.NodeView.TheViews.{out-NodeView, roll-NodeView}
use Rattle.wm_tree.specs.TreeValue.{TreeValue}
use Rattle.wm_views.specs.declared.cons.Above.{Above}
use Rattle.wm_views.specs.declared.rows.Below.{Below}
use Rattle.wm_views.specs.Maps.{area}
use Rattle.wm_views.specs.Nodes.{Shown, con_node, con_views, cons, over_floats, over_kids, rowed, space_node, space_nodes}
use Rattle.wm_views.specs.Recency.{by_recency, focus}
use Rattle.wm_views.specs.Rows.{IsPlaced}

-- a view that has the fields of another, with equal rows, is that one with these rows
with_equal_rows : (view : NodeView) (shown : Shown) (nodes nodes' floating floating' : List NodeView) (focus focus' : List ℕ)
    → view ≡ roll-NodeView shown → nodes ≡ nodes' → floating ≡ floating' → focus ≡ focus'
    → roll-NodeView (rowed nodes floating focus (out-NodeView view)) ≡ roll-NodeView (rowed nodes' floating' focus' shown)
unfolding out-NodeView denote.Hole.Carrier.out roll-NodeView denote.Hole.Carrier.roll
with_equal_rows view shown nodes nodes' floating floating' focus focus' v n f o = rw v (rw n (rw f (rw o refl)))

-- a container's view over its children is the one of its node
pub con_over : (t : TreeValue) (parts : List Placed) (above : Above) (part : Part) (c : ConPart) (kids : Forest) (old new : List NodeView) (b : Below) (view : NodeView)
    → part.kind ≡ Con c → new ≡ old ++ (roll-NodeView (rowed b.kids.items b.floats.items (map (λ n. n.1) b.placed.items) (out-NodeView view)) ∷ [])
    → view ≡ roll-NodeView (con_node t parts above part c c.kind kids) → b.kids.items ≡ cons t parts (over_kids parts part.id kids) kids → b.floats.items ≡ []
    → b.placed.items ≡ by_recency t.recency kids end
    → new ≡ old ++ con_views t parts above part (con_kind part.kind) kids (cons t parts (over_kids parts part.id kids) kids)
con_over t parts above part c kids old new b view kind added shown nodes floating placed =
    let same = with_equal_rows view (con_node t parts above part c c.kind kids) b.kids.items (cons t parts (over_kids parts part.id kids) kids) b.floats.items [] (map (λ n. n.1) b.placed.items) (focus t.recency kids end) shown nodes floating (ap (map (λ n. n.1)) placed) in
    added ∙ ap (λ v. old ++ (v ∷ [])) same ∙ ap (λ k. old ++ con_views t parts above part (con_kind k) kids (cons t parts (over_kids parts part.id kids) kids)) (sym kind)

-- so is a workspace's over its children and floating windows
pub space_over : (t : TreeValue) (parts : List Placed) (o : OutputPart) (part : Part) (s : SpacePart) (kids floats : Forest) (old new : List NodeView) (b : Below) (view : NodeView)
    → part.kind ≡ Space s → new ≡ old ++ (roll-NodeView (rowed b.kids.items b.floats.items (map (λ n. n.1) b.placed.items) (out-NodeView view)) ∷ [])
    → view ≡ roll-NodeView (space_node t parts o part s kids floats) → b.kids.items ≡ cons t parts (over_kids parts part.id kids) kids
    → b.floats.items ≡ cons t parts (over_floats (area parts part.id)) floats → IsPlaced t.recency kids floats b
    → new ≡ old ++ space_nodes t parts o part (space_kind part.kind) kids floats
space_over t parts o part s kids floats old new b view kind added shown nodes floating placed =
    let same = with_equal_rows view (space_node t parts o part s kids floats) b.kids.items (cons t parts (over_kids parts part.id kids) kids) b.floats.items (cons t parts (over_floats (area parts part.id)) floats) (map (λ n. n.1) b.placed.items) (focus t.recency kids floats) shown nodes floating (ap (map (λ n. n.1)) placed.placed) in
    added ∙ ap (λ v. old ++ (v ∷ [])) same ∙ ap (λ k. old ++ space_nodes t parts o part (space_kind k) kids floats) (sym kind)
