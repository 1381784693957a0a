-- The text of a node.
use Rattle.std.proofs.Common.{◌≡◌, ℕ, ℤ, Bool, List, [], ◌∷◌, ◌++◌, Option, option_map, map, codes, rules, refl, sym, ap, subst}
use Rattle.std.specs.Prelude.{decimal}
use Rattle.std.specs.Fmt.{signed_decimal}
use Rattle.json.specs.Print.{quoted}
use Rattle.serde_json.specs.Data.{Data, array, boolean, string}
use Rattle.serde_json.specs.View.{items_of}
use Rattle.wm_base.specs.declared.properties.Props.{Props}
use Rattle.wm_json.specs.Arrays.{array_text, list_text, texts_data, texts_text}
use Rattle.wm_json.specs.Nodes.{border_fields, border_texts, focus_fields, focus_texts, last_fields, last_texts, middle_fields, middle_texts, name_fields, name_texts, node_data, node_object, node_object_text, node_text, nodes_data, nodes_text, place_fields, place_texts, properties_data, properties_fields, properties_text, properties_texts, share_fields, share_texts, window_fields, window_texts}
use Rattle.wm_json.specs.Objects.{Field, always, array_with, flag_text, integer, null_or, object_text, object_with, or_null, whole_number}
use Rattle.wm_json.specs.declared.views.NodeView.{NodeView}
use Rattle.wm_json.specs.declared.views.NodeView.TheOpen.{NodeView-F}
use Rattle.wm_json.specs.declared.views.NodeView.TheViews.{roll-NodeView}
use Rattle.wm_json.specs.declared.views.NodeView.TheFolds.{fold-roll-NodeView, ind-NodeView}
use Rattle.wm_json.proofs.NodeLemmas.{all_fields}
use Rattle.wm_json.proofs.PrintLemmas.{Print, PrintIf, Prints, PrintsGroup, prints_array, prints_both, prints_flag, prints_if, prints_integer, prints_number, prints_object, prints_or_null, prints_rect, prints_text}

prints_flag_if : (o : Option Bool) → PrintIf (option_map boolean o) (option_map flag_text o)
prints_flag_if = prints_if boolean flag_text prints_flag

prints_text_if : (o : Option (List ℕ)) → PrintIf (option_map string o) (option_map quoted o)
prints_text_if = prints_if string quoted prints_text

prints_integer_if : (o : Option ℤ) → PrintIf (option_map integer o) (option_map signed_decimal o)
prints_integer_if = prints_if integer signed_decimal prints_integer

prints_number_or_null : (o : Option ℕ) → Prints (or_null whole_number o) (null_or decimal o)
prints_number_or_null = prints_or_null whole_number decimal prints_number

prints_text_or_null : (o : Option (List ℕ)) → Prints (or_null string o) (null_or quoted o)
prints_text_or_null = prints_or_null string quoted prints_text

prints_numbers : (ns : List ℕ) → Prints (array_with whole_number ns) (array_text decimal ns)
prints_numbers = prints_array whole_number decimal prints_number

prints_texts : (ts : List (List ℕ)) → Prints (texts_data ts) (texts_text ts)
prints_texts = prints_array string quoted prints_text

prints_properties : (p : Props) → Prints (properties_data p) (properties_text p)
prints_properties p =
    let fields : Print (properties_fields p) (properties_texts p) = search (rules, prints_text) in
    prints_object (properties_fields p) (properties_texts p) fields

prints_properties_or_null : (o : Option Props) → Prints (or_null properties_data o) (null_or properties_text o)
prints_properties_or_null = prints_or_null properties_data properties_text prints_properties

module _ (n : NodeView-F NodeView) where
  print_border : PrintsGroup (border_fields n) (border_texts n)
  print_border = record { fields = search (rules, prints_flag_if, prints_text, prints_number, prints_text_if, prints_rect) }

  print_focus : PrintsGroup (focus_fields n) (focus_texts n)
  print_focus = record { fields = search (rules, prints_numbers, prints_flag, prints_number, prints_rect) }

  print_name : PrintsGroup (name_fields n) (name_texts n)
  print_name = record { fields = search (rules, prints_text, prints_texts) }

  print_place : PrintsGroup (place_fields n) (place_texts n)
  print_place = record { fields = search (rules, prints_integer_if, prints_text, prints_text_if, prints_flag_if, prints_rect) }

  print_share : PrintsGroup (share_fields n) (share_texts n)
  print_share = record { fields = search (rules, prints_number, prints_flag, prints_text) }

  print_window : PrintsGroup (window_fields n) (window_texts n)
  print_window = record { fields = search (rules, prints_flag_if, prints_number_or_null, prints_properties_or_null, prints_rect, prints_text_or_null) }

  abbrev all_texts : List (Field (List ℕ))
  all_texts =
      border_texts n
      ++ (always (codes "floating_nodes") (nodes_text n.floating_nodes) ∷ middle_texts n)
      ++ (always (codes "nodes") (nodes_text n.nodes) ∷ last_texts n)

  print_node : Prints (nodes_data n.floating_nodes) (nodes_text n.floating_nodes) → Prints (nodes_data n.nodes) (nodes_text n.nodes) → PrintsGroup (all_fields n) all_texts
  print_node floats kids =
      let middle = prints_both print_focus print_name in
      let last = prints_both (prints_both print_place print_share) print_window in
      let floating : PrintsGroup (always (codes "floating_nodes") (nodes_data n.floating_nodes) ∷ middle_fields n) (always (codes "floating_nodes") (nodes_text n.floating_nodes) ∷ middle_texts n) = record { fields = (refl, floats, middle.fields) } in
      let tiled : PrintsGroup (always (codes "nodes") (nodes_data n.nodes) ∷ last_fields n) (always (codes "nodes") (nodes_text n.nodes) ∷ last_texts n) = record { fields = (refl, kids, last.fields) } in
      prints_both (prints_both print_border floating) tiled

abbrev PrintsNode : NodeView → Type 0
PrintsNode n = Prints (node_data n) (node_text n)

projected : {A B : Type 0} {P : A → Type 0} (f : A → B) (es : List ((x : A) × P x)) → map f (map (λ e. e.0) es) ≡ map (λ e. f e.0) es
projected f [] = refl
projected f (e ∷ es) = ap (λ ys. f e.0 ∷ ys) (projected f es)

kids_print : (es : List ((n : NodeView) × PrintsNode n)) → Prints (nodes_data (map (λ e. e.0) es)) (nodes_text (map (λ e. e.0) es))
kids_print es =
    let all = prints_array (λ (e : (n : NodeView) × PrintsNode n). node_data e.0) (λ e. node_text e.0) (λ e. e.1) es in
    subst (λ ds. Prints (array (items_of ds)) (nodes_text (map (λ e. e.0) es))) (sym (projected node_data es))
    (subst (λ ts. Prints (array (items_of (map (λ e. node_data e.0) es))) (list_text ts)) (sym (projected node_text es)) all)

rolled : (x : NodeView-F NodeView) → Prints (object_with (all_fields x)) (object_text (all_texts x)) → PrintsNode (roll-NodeView x)
rolled x h =
    subst (λ d. Prints d (node_text (roll-NodeView x))) (sym (fold-roll-NodeView Data node_object x))
    (subst (Prints (object_with (all_fields x))) (sym (fold-roll-NodeView (List ℕ) node_object_text x)) h)

-- the object of a node has no float, and this text
pub node_prints : (n : NodeView) → Prints (node_data n) (node_text n)
node_prints = ind-NodeView PrintsNode (λ x y is.
    let floats = subst (λ z. Prints (nodes_data z.floating_nodes) (nodes_text z.floating_nodes)) is (kids_print y.floating_nodes) in
    let kids = subst (λ z. Prints (nodes_data z.nodes) (nodes_text z.nodes)) is (kids_print y.nodes) in
    rolled x (prints_object (all_fields x) (all_texts x) (print_node x floats kids).fields))
