-- A tree that is as it was tells nothing.
use Rattle.std.proofs.Common.{◌≡◌, ℕ, ◌==◌, Bool, true, false, not, ◌&&◌, ◌||◌, List, [], ◌∷◌, Option, Some, None, is_some, refl, ap, sym, ◌∙◌}
use Rattle.std.proofs.lemmas.Bool.Decides.{Decides-eqb, Decides-int_eq}
use Rattle.std.proofs.lemmas.Slice.Eq.{bytes_eq-Decides}
use Rattle.std.specs.BTreeMap.{insert_entry, is_at}
use Rattle.std.specs.Cmp.Lexicographic.{pointwise}
use Rattle.std.specs.List.{flat_map}
use Rattle.std.specs.List.Sorted.{IsStrictlySortedBy}
use Rattle.std.specs.Map.{keys_of, lookup, values_of}
use Rattle.std.specs.Ordering.{nat_cmp}
use Rattle.std.specs.Str.{bytes_eq}
use Rattle.wm_arrange.specs.declared.parts.Placed.{Placed}
use Rattle.wm_arrange.specs.Same.{same_rect}
use Rattle.wm_base.specs.declared.geometry.Edges.{Edges}
use Rattle.wm_base.specs.declared.geometry.Rect.{Rect}
use Rattle.wm_base.specs.declared.ids.ConId.{ConId}
use Rattle.wm_changes.specs.declared.words.Change.{Change}
use Rattle.wm_changes.specs.declared.words.Change.TheVariants.{Close, Empty}
use Rattle.wm_changes.specs.Changes.{changes, close_line, empty_line, focus_events, gone_events, here_events, space_line, told, window_line}
use Rattle.wm_changes.specs.Differences.{differences, same_flag, same_id, space_words, title, window_words}
use Rattle.wm_changes.specs.Facts.{SpaceFact, WindowFact, put_spaces, put_windows, spaces, spaces_in, top, windows, windows_in}
use Rattle.wm_changes.specs.OutputChanges.{are_kept, has_output, is_kept, is_output, outputs_differ, same_edges}
use Rattle.wm_changes.proofs.EntryLemmas.{Found, Keyed, found_all, keyed_insert, sorted_insert}
use Rattle.wm_forest.specs.declared.part.OutputPart.{OutputPart}
use Rattle.wm_forest.specs.Forest.{Forest, end, con}
use Rattle.wm_forest.specs.Look.{first_kids, output_kind}
use Rattle.wm_forest.specs.Recency.{lists}
use Rattle.wm_json.specs.declared.views.EventBody.{EventBody}
use Rattle.wm_tree.specs.TreeValue.{TreeValue, focused, shown}
use Rattle.wm_views.specs.Maps.{holds, value_at}

-- ---- outputs

same_number : (n : ℕ) → (n == n) ≡ true
same_number n = (Decides-eqb n n).1 refl

all_true : (a b : Bool) → a ≡ true → b ≡ true → (a && b) ≡ true
all_true a b p q = cc

rect_own : (r : Rect) → same_rect r r ≡ true
rect_own r = rw ((Decides-int_eq r.x r.x).1 refl, (Decides-int_eq r.y r.y).1 refl, same_number r.w, same_number r.h) refl

edges_own : (e : Edges) → same_edges e e ≡ true
edges_own e = rw (same_number e.top, same_number e.right, same_number e.bottom, same_number e.left) refl

output_own : (c : ConId) (o : OutputPart) → is_output c o c (Some o) ≡ true
output_own c o = rw (same_number c.0, rect_own o.rect, edges_own o.reserved) refl

either : (a b : Bool) → b ≡ true → (a || b) ≡ true
either true b h = refl
either false b h = h

first_of_two : (a b : Bool) → a ≡ true → (a || b) ≡ true
first_of_two true b h = refl
first_of_two false b h = let bad : false ≡ true = h in cc

kept_here : (c : ConId) (kind : Option OutputPart) (row : Forest) → ((o : OutputPart) → kind ≡ Some o → has_output c o row ≡ true) → is_kept c kind row ≡ true
kept_here c None row h = refl
kept_here c (Some o) row h = h o refl

kept_within : (row whole : Forest) → ((c : ConId) (o : OutputPart) → has_output c o row ≡ true → has_output c o whole ≡ true) → are_kept row whole ≡ true
kept_within end whole h = refl
kept_within (con part kids floats rest) whole h =
    all_true (is_kept part.id (output_kind part.kind) whole) (are_kept rest whole)
    (kept_here part.id (output_kind part.kind) whole (λ o is. h part.id o (first_of_two (is_output part.id o part.id (output_kind part.kind)) (has_output part.id o rest) (ap (is_output part.id o part.id) is ∙ output_own part.id o))))
    (kept_within rest whole (λ c o there. h c o (either (is_output c o part.id (output_kind part.kind)) (has_output c o rest) there)))

outputs_stay : (t : TreeValue) → outputs_differ t t ≡ false
outputs_stay t = let kept : are_kept (first_kids t.nodes) (first_kids t.nodes) ≡ true = kept_within (first_kids t.nodes) (first_kids t.nodes) (λ c o there. there) in rw (kept) refl

-- ---- windows

flag_own : (b : Bool) → same_flag b b ≡ true
flag_own true = refl
flag_own false = refl

id_own : (c : Option ConId) → same_id c c ≡ true
id_own None = refl
id_own (Some c) = same_number c.0

text_own : (x : List ℕ) → bytes_eq x x ≡ true
text_own x = (bytes_eq-Decides x x).1 refl

texts_own : (xs : List (List ℕ)) → pointwise bytes_eq xs xs ≡ true
texts_own [] = refl
texts_own (x ∷ xs) = rw (text_own x, texts_own xs) refl

-- a window does not differ from itself
none_differs : (t : TreeValue) (w : WindowFact) (event : Change → EventBody) → told event (differences t t w w) ≡ []
none_differs t w event =
    rw (text_own (title w), id_own w.standing.holder, id_own w.standing.space, flag_own w.standing.floating, flag_own w.state.state.fullscreen, flag_own (lists w.part.id t.urgent), texts_own w.part.marks) refl

window_found : (t : TreeValue) (found : Option WindowFact) (w : WindowFact) (event : Change → EventBody) → found ≡ Some w → told event (window_words t t found w) ≡ []
window_found t found w event is = rw (is) (none_differs t w event)

windows_still : (t : TreeValue) (a : List Placed) (es : List (ℕ × WindowFact)) → Found (windows t) es → Keyed (λ w. w.part.id.0) es → flat_map (window_line t t a) (values_of es) ≡ []
windows_still t a [] found keyed = refl
windows_still t a (e ∷ es) found keyed =
    let here : value_at (windows t) e.1.part.id ≡ Some e.1 = ap (λ n. lookup (is_at (nat_cmp n)) (windows t)) (sym keyed.0) ∙ found.0 in
    rw (window_found t (value_at (windows t) e.1.part.id) e.1 _ here) (windows_still t a es found.1 keyed.1)

-- a window that is there is not gone
pub gone_not : {V : Type 0} (m : List (ℕ × V)) (c : ConId) (v : V) (event : Change → EventBody) (change : Change) → value_at m c ≡ Some v → told event ((not (holds m c), change) ∷ []) ≡ []
gone_not m c v event change is = rw (ap is_some is) refl

closed_still : (t : TreeValue) (a : List Placed) (es : List (ℕ × WindowFact)) → Found (windows t) es → Keyed (λ w. w.part.id.0) es → flat_map (close_line t a t) (values_of es) ≡ []
closed_still t a [] found keyed = refl
closed_still t a (e ∷ es) found keyed =
    let here : value_at (windows t) e.1.part.id ≡ Some e.1 = ap (λ n. lookup (is_at (nat_cmp n)) (windows t)) (sym keyed.0) ∙ found.0 in
    rw (gone_not (windows t) e.1.part.id e.1 _ Close here) (closed_still t a es found.1 keyed.1)

pub sorted_put : (ws : List WindowFact) (done : List (ℕ × WindowFact)) → IsStrictlySortedBy nat_cmp (keys_of done) → IsStrictlySortedBy nat_cmp (keys_of (put_windows ws done))
sorted_put [] done h = h
sorted_put (w ∷ ws) done h = sorted_put ws (insert_entry nat_cmp done w.part.id.0 w) (sorted_insert w.part.id.0 w done h)

pub sorted_windows : (ws : List WindowFact) → IsStrictlySortedBy nat_cmp (keys_of (put_windows ws []))
unfolding IsStrictlySortedBy
sorted_windows ws = sorted_put ws [] tt

keyed_put : (ws : List WindowFact) (done : List (ℕ × WindowFact)) → Keyed (λ w. w.part.id.0) done → Keyed (λ w. w.part.id.0) (put_windows ws done)
keyed_put [] done h = h
keyed_put (w ∷ ws) done h = keyed_put ws (insert_entry nat_cmp done w.part.id.0 w) (keyed_insert (λ w. w.part.id.0) w done h)

keyed_windows : (ws : List WindowFact) → Keyed (λ w. w.part.id.0) (put_windows ws [])
keyed_windows ws = keyed_put ws [] tt

-- ---- workspaces

space_found : (found : Option SpaceFact) (s : SpaceFact) (event : Change → EventBody) → found ≡ Some s → told event (space_words found s) ≡ []
space_found found s event is = rw (is) (rw (text_own s.state.name, same_number s.output_id.0) refl)

spaces_still : (t : TreeValue) (a : List Placed) (es : List (ℕ × SpaceFact)) → Found (spaces t) es → Keyed (λ s. s.part.id.0) es → flat_map (space_line t t a) (values_of es) ≡ []
spaces_still t a [] found keyed = refl
spaces_still t a (e ∷ es) found keyed =
    let here : value_at (spaces t) e.1.part.id ≡ Some e.1 = ap (λ n. lookup (is_at (nat_cmp n)) (spaces t)) (sym keyed.0) ∙ found.0 in
    rw (space_found (value_at (spaces t) e.1.part.id) e.1 _ here) (spaces_still t a es found.1 keyed.1)

emptied_still : (t : TreeValue) (a : List Placed) (es : List (ℕ × SpaceFact)) → Found (spaces t) es → Keyed (λ s. s.part.id.0) es → flat_map (empty_line t a t) (values_of es) ≡ []
emptied_still t a [] found keyed = refl
emptied_still t a (e ∷ es) found keyed =
    let here : value_at (spaces t) e.1.part.id ≡ Some e.1 = ap (λ n. lookup (is_at (nat_cmp n)) (spaces t)) (sym keyed.0) ∙ found.0 in
    rw (gone_not (spaces t) e.1.part.id e.1 _ Empty here) (emptied_still t a es found.1 keyed.1)

sorted_put_spaces : (ss : List SpaceFact) (done : List (ℕ × SpaceFact)) → IsStrictlySortedBy nat_cmp (keys_of done) → IsStrictlySortedBy nat_cmp (keys_of (put_spaces ss done))
sorted_put_spaces [] done h = h
sorted_put_spaces (s ∷ ss) done h = sorted_put_spaces ss (insert_entry nat_cmp done s.part.id.0 s) (sorted_insert s.part.id.0 s done h)

sorted_spaces : (ss : List SpaceFact) → IsStrictlySortedBy nat_cmp (keys_of (put_spaces ss []))
unfolding IsStrictlySortedBy
sorted_spaces ss = sorted_put_spaces ss [] tt

keyed_put_spaces : (ss : List SpaceFact) (done : List (ℕ × SpaceFact)) → Keyed (λ s. s.part.id.0) done → Keyed (λ s. s.part.id.0) (put_spaces ss done)
keyed_put_spaces [] done h = h
keyed_put_spaces (s ∷ ss) done h = keyed_put_spaces ss (insert_entry nat_cmp done s.part.id.0 s) (keyed_insert (λ s. s.part.id.0) s done h)

keyed_spaces : (ss : List SpaceFact) → Keyed (λ s. s.part.id.0) (put_spaces ss [])
keyed_spaces ss = keyed_put_spaces ss [] tt

-- ---- all

focus_still : (t : TreeValue) (a : List Placed) → focus_events t a t a ≡ []
focus_still t a = rw (same_number (shown t).0, same_number (focused t).0) refl

here_still : (t : TreeValue) (a : List Placed) → here_events t t a ≡ []
here_still t a =
    let windows_there : Found (windows t) (windows t) = found_all (windows t) (sorted_windows (windows_in top t.nodes)) in
    let windows_keyed : Keyed (λ (w : WindowFact). w.part.id.0) (windows t) = keyed_windows (windows_in top t.nodes) in
    let spaces_there : Found (spaces t) (spaces t) = found_all (spaces t) (sorted_spaces (spaces_in (first_kids t.nodes))) in
    let spaces_keyed : Keyed (λ (s : SpaceFact). s.part.id.0) (spaces t) = keyed_spaces (spaces_in (first_kids t.nodes)) in
    rw (outputs_stay t, spaces_still t a (spaces t) spaces_there spaces_keyed, windows_still t a (windows t) windows_there windows_keyed) refl

gone_still : (t : TreeValue) (a : List Placed) → gone_events t a t ≡ []
gone_still t a =
    let windows_there : Found (windows t) (windows t) = found_all (windows t) (sorted_windows (windows_in top t.nodes)) in
    let windows_keyed : Keyed (λ (w : WindowFact). w.part.id.0) (windows t) = keyed_windows (windows_in top t.nodes) in
    let spaces_there : Found (spaces t) (spaces t) = found_all (spaces t) (sorted_spaces (spaces_in (first_kids t.nodes))) in
    let spaces_keyed : Keyed (λ (s : SpaceFact). s.part.id.0) (spaces t) = keyed_spaces (spaces_in (first_kids t.nodes)) in
    rw (closed_still t a (windows t) windows_there windows_keyed, emptied_still t a (spaces t) spaces_there spaces_keyed) refl

-- of trees with the same nodes and the same urgent windows only what is focused is told
only_focus : (t u : TreeValue) (a b : List Placed) → t.nodes ≡ u.nodes → t.urgent ≡ u.urgent → changes t a u b ≡ focus_events t a u b
only_focus t u a b nodes urgent =
    let here : here_events t u b ≡ [] =
    ap (λ n. here_events (record t { nodes = n }) u b) nodes
    ∙ ap (λ g. here_events (record t { nodes = u.nodes; urgent = g }) u b) urgent
    ∙ here_still u b in
    let gone : gone_events t a u ≡ [] = ap (λ n. gone_events t a (record u { nodes = n })) (sym nodes) ∙ gone_still t a in
    rw (here, gone) refl

-- a tree that is as it was tells nothing
pub nothing_told : (t : TreeValue) (a : List Placed) → changes t a t a ≡ []
nothing_told t a = only_focus t t a a refl refl ∙ focus_still t a
