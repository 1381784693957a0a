-- The object of a node, field by field.
use Rattle.std.proofs.Common.{◌≡◌, true, List, ◌∷◌, ◌++◌, codes, refl, sym, ◌∙◌, ap}
use Rattle.serde_json.specs.Data.{Data, Members, no_members, object, put as with_member}
use Rattle.wm_json.specs.Nodes.{border_fields, last_fields, middle_fields, node_data, node_object, nodes_data}
use Rattle.wm_json.specs.Objects.{Field, always, object_with, put_fields}
use Rattle.wm_json.specs.declared.views.NodeView.{NodeView}
use Rattle.wm_json.specs.declared.views.NodeView.TheOpen.{NodeView-F}
use Rattle.wm_json.specs.declared.views.NodeView.TheViews.{out-NodeView}
use Rattle.wm_json.specs.declared.views.NodeView.TheFolds.{fold_out-NodeView}
use Rattle.wm_json.proofs.FieldLemmas.{are_in_order, put_in_order}

abbrev pub all_fields : NodeView-F NodeView → List (Field Data)
all_fields n =
    border_fields n
    ++ (always (codes "floating_nodes") (nodes_data n.floating_nodes) ∷ middle_fields n)
    ++ (always (codes "nodes") (nodes_data n.nodes) ∷ last_fields n)

node_is : (n : NodeView) → node_data n ≡ object_with (all_fields (out-NodeView n))
node_is n = fold_out-NodeView Data node_object n

ordered : (n : NodeView-F NodeView) → are_in_order (all_fields n) ≡ true
ordered n = refl

-- the groups of fields added one after the other
pub added : (n : NodeView) (m0 m1 m2 m3 m4 m5 : Members)
    → m0 ≡ no_members
    → m1 ≡ put_fields (last_fields (out-NodeView n)) m0
    → m2 ≡ with_member (codes "nodes") (nodes_data (out-NodeView n).nodes) m1
    → m3 ≡ put_fields (middle_fields (out-NodeView n)) m2
    → m4 ≡ with_member (codes "floating_nodes") (nodes_data (out-NodeView n).floating_nodes) m3
    → m5 ≡ put_fields (border_fields (out-NodeView n)) m4
    → object m5 ≡ node_data n
added n m0 m1 m2 m3 m4 m5 e0 e1 e2 e3 e4 e5 =
    let x = out-NodeView n in
    let e : m5 ≡ put_fields (all_fields x) no_members = e5
    ∙ ap (put_fields (border_fields x)) (e4
    ∙ ap (with_member (codes "floating_nodes") (nodes_data x.floating_nodes)) (e3
    ∙ ap (put_fields (middle_fields x)) (e2
    ∙ ap (with_member (codes "nodes") (nodes_data x.nodes)) (e1
    ∙ ap (put_fields (last_fields x)) e0)))) in
    ap object (e ∙ put_in_order (all_fields x) (ordered x)) ∙ sym (node_is n)
