-- The ids that focus lists are those of the views of the rows.
use Rattle.std.proofs.Common.{◌≡◌, ℕ, Bool, false, List, [], ◌∷◌, ◌++◌, map, refl, subst, append-nil, ◌∙◌}
use Rattle.std.proofs.lemmas.List.{map-append}
use Rattle.std.proofs.lemmas.List.Sorted.{IsPermutation-map}
use Rattle.std.specs.List.Sorted.{IsPermutation}
use Rattle.wm_arrange.specs.declared.parts.Placed.{Placed}
use Rattle.wm_base.specs.declared.ids.ConId.{ConId}
use Rattle.wm_forest.specs.declared.part.ConKind.{ConKind}
use Rattle.wm_forest.specs.declared.part.ConKind.TheVariants.{Split, Window, Placeholder}
use Rattle.wm_forest.specs.declared.part.ConPart.{ConPart}
use Rattle.wm_forest.specs.declared.part.NodeKind.{NodeKind}
use Rattle.wm_forest.specs.declared.part.NodeKind.TheVariants.{Root, Output, Space, Con}
use Rattle.wm_forest.specs.declared.part.OutputPart.{OutputPart}
use Rattle.wm_forest.specs.declared.part.Part.{Part}
use Rattle.wm_forest.specs.Forest.{Forest, end, con}
use Rattle.wm_forest.specs.Look.{con_kind, output_kind, space_kind}
use Rattle.wm_forest.specs.SoundRow.{IsNode, containers, outputs, spaces}
use Rattle.wm_json.specs.declared.views.NodeView.TheViews.{out-NodeView, roll-NodeView}
use Rattle.wm_tree.specs.TreeValue.{TreeValue}
use Rattle.wm_views.specs.declared.cons.Above.{Above}
use Rattle.wm_views.specs.FocusLaws.{FocusIsOfCons, FocusIsOfOutputs, FocusIsOfSpaces, id_of}
use Rattle.wm_views.specs.Nodes.{Shown, con_node, con_views, cons, output_nodes, outputs_under, over_kids, space_nodes, spaces_under}
use Rattle.wm_views.specs.Recency.{by_recency, focus, least_place, placed_row, put_nodes}
use Rattle.wm_views.specs.Rows.{IsRowAt}
use Rattle.wm_views.proofs.OrderLemmas.{all_nodes, nodes_are_all}
use Rattle.wm_views.proofs.RowLemmas.{con_rest, output_rest, space_rest}

rolled_id : (v : Shown) → id_of (roll-NodeView v) ≡ v.id
unfolding out-NodeView denote.Hole.Carrier.out roll-NodeView denote.Hole.Carrier.roll
rolled_id v = refl

-- the ids of a row's nodes
abbrev ids_in : List ConId → Forest → List ℕ
ids_in ids row = map (λ n. n.1) (placed_row ids row)

one_more : (x y : ℕ) (xs ys : List ℕ) → x ≡ y → xs ≡ ys → x ∷ xs ≡ y ∷ ys
one_more x y xs ys e f = rw e (rw f refl)

con_id : (t : TreeValue) (parts : List Placed) (above : Above) (part : Part) (c : ConPart) (kind : ConKind) (kids : Forest) → (con_node t parts above part c kind kids).id ≡ part.id.0
con_id t parts above part c (Split layout last) kids = refl
con_id t parts above part c (Window props owner natural) kids = refl
con_id t parts above part c (Placeholder props swallows) kids = refl

cons_ids : (t : TreeValue) (parts : List Placed) (above : Above) (row : Forest) → IsRowAt containers row → map id_of (cons t parts above row) ≡ ids_in t.recency row
cons_ids t parts above end s = refl
cons_ids t parts above (con part kids floats rest) s = by_kind part.kind s.sound.0 (cons_ids t parts above rest (con_rest (con part kids floats rest) s))
  where
    by_kind : (kind : NodeKind) → IsNode containers s.tiled s.room part.id kind part.marks kids → map id_of (cons t parts above rest) ≡ ids_in t.recency rest
        → map id_of (con_views t parts above part (con_kind kind) kids (cons t parts (over_kids parts part.id kids) kids) ++ cons t parts above rest) ≡ part.id.0 ∷ ids_in t.recency rest
    by_kind (Root c) n h = absurd n
    by_kind (Output o) n h = absurd n
    by_kind (Space w) n h = absurd n
    by_kind (Con c) n h = one_more _ part.id.0 _ (ids_in t.recency rest) (rolled_id _ ∙ con_id t parts above part c c.kind kids) h

spaces_ids : (t : TreeValue) (parts : List Placed) (o : OutputPart) (row : Forest) → IsRowAt spaces row → map id_of (spaces_under t parts o row) ≡ ids_in t.recency row
spaces_ids t parts o end s = refl
spaces_ids t parts o (con part kids floats rest) s = by_kind part.kind s.sound.0 (spaces_ids t parts o rest (space_rest (con part kids floats rest) s))
  where
    by_kind : (kind : NodeKind) → IsNode spaces s.tiled s.room part.id kind part.marks kids → map id_of (spaces_under t parts o rest) ≡ ids_in t.recency rest
        → map id_of (space_nodes t parts o part (space_kind kind) kids floats ++ spaces_under t parts o rest) ≡ part.id.0 ∷ ids_in t.recency rest
    by_kind (Root c) n h = absurd n
    by_kind (Output o) n h = absurd n
    by_kind (Space w) n h = one_more _ part.id.0 _ (ids_in t.recency rest) (rolled_id _) h
    by_kind (Con c) n h = absurd n

outputs_ids : (t : TreeValue) (parts : List Placed) (first : Bool) (row : Forest) → IsRowAt outputs row → map id_of (outputs_under t parts first row) ≡ ids_in t.recency row
outputs_ids t parts first end s = refl
outputs_ids t parts first (con part kids floats rest) s = by_kind part.kind s.sound.0 (outputs_ids t parts false rest (output_rest (con part kids floats rest) s))
  where
    by_kind : (kind : NodeKind) → IsNode outputs s.tiled s.room part.id kind part.marks kids → map id_of (outputs_under t parts false rest) ≡ ids_in t.recency rest
        → map id_of (output_nodes t parts first part (output_kind kind) kids ++ outputs_under t parts false rest) ≡ part.id.0 ∷ ids_in t.recency rest
    by_kind (Root c) n h = absurd n
    by_kind (Output o) n h = one_more _ part.id.0 _ (ids_in t.recency rest) (rolled_id _) h
    by_kind (Space w) n h = absurd n
    by_kind (Con c) n h = absurd n

-- the ids of nodes put at their places
listed : (ids : List ConId) (kids floats : Forest) → IsPermutation (ids_in ids kids ++ ids_in ids floats) (focus ids kids floats)
listed ids kids floats =
    subst (λ l. IsPermutation l (focus ids kids floats)) (map-append (λ n. n.1) (placed_row ids kids) (placed_row ids floats))
    (IsPermutation-map (λ n. n.1) (placed_row ids kids ++ placed_row ids floats) (by_recency ids kids floats) (nodes_are_all ids kids floats))

pub focus_is_of_cons : FocusIsOfCons
focus_is_of_cons t parts above over kids floats s z = rw (cons_ids t parts above kids s) (rw (cons_ids t parts over floats z) (listed t.recency kids floats))

pub focus_is_of_spaces : FocusIsOfSpaces
focus_is_of_spaces t parts o row s = rw (spaces_ids t parts o row s) (subst (λ l. IsPermutation l (focus t.recency row end)) (append-nil (ids_in t.recency row)) (listed t.recency row end))

pub focus_is_of_outputs : FocusIsOfOutputs
focus_is_of_outputs t parts first row windows s =
    rw (outputs_ids t parts first row s)
    (IsPermutation-map (λ n. n.1) ((least_place t.recency windows, 4294967294) ∷ placed_row t.recency row) (put_nodes ((least_place t.recency windows, 4294967294) ∷ placed_row t.recency row) []) (all_nodes ((least_place t.recency windows, 4294967294) ∷ placed_row t.recency row)))
