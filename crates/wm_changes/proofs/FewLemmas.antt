-- How many events are told at most.
use Rattle.std.proofs.Common.{◌≡◌, ◌≤◌, ℕ, suc, ◌+◌, ◌*◌, Bool, true, false, cond, not, List, [], ◌∷◌, Option, Some, None, option_map, length, length-append, arith}
use Rattle.std.specs.List.{flat_map}
use Rattle.std.specs.BTreeMap.{insert_entry}
use Rattle.std.specs.Map.{values_of}
use Rattle.std.specs.Ordering.{nat_cmp}
use Rattle.wm_arrange.specs.declared.parts.Placed.{Placed}
use Rattle.wm_base.specs.declared.ids.ConId.{ConId}
use Rattle.wm_changes.specs.declared.standing.Standing.{Standing}
use Rattle.wm_changes.specs.declared.words.Change.{Change}
use Rattle.wm_changes.specs.declared.words.Change.TheVariants.{Close, Empty}
use Rattle.wm_changes.specs.Changes.{changes, close_line, empty_line, focus_event, focus_of, output_events, space_event, space_focus, space_line, space_view, told, window_event, window_focus, window_line, window_view}
use Rattle.wm_changes.specs.Differences.{Word, space_words, window_words}
use Rattle.wm_changes.specs.Facts.{SpaceFact, WindowFact, float_standing, kid_standing, put_spaces, put_windows, space_here, spaces, spaces_in, spaces_of, spaces_on, top, window_by, window_here, windows, windows_in}
use Rattle.wm_changes.specs.OutputChanges.{outputs_differ}
use Rattle.wm_changes.proofs.EntryLemmas.{length_insert}
use Rattle.wm_forest.specs.declared.part.ConKind.{ConKind}
use Rattle.wm_forest.specs.declared.part.ConKind.TheVariants.{Split, Window, Placeholder}
use Rattle.wm_forest.specs.declared.part.ConPart.{ConPart}
use Rattle.wm_forest.specs.declared.part.NodeKind.{NodeKind}
use Rattle.wm_forest.specs.declared.part.NodeKind.TheVariants.{Root, Output, Space, Con}
use Rattle.wm_forest.specs.declared.part.OutputPart.{OutputPart}
use Rattle.wm_forest.specs.declared.part.Part.{Part}
use Rattle.wm_forest.specs.Counts.{con_count, one_con, one_space, space_count}
use Rattle.wm_forest.specs.Forest.{Forest, end, con}
use Rattle.wm_forest.specs.Look.{con_kind, first_kids, output_kind, same, space_kind}
use Rattle.wm_json.specs.declared.views.EventBody.{EventBody}
use Rattle.wm_json.specs.declared.views.EventBody.TheVariants as body
use Rattle.wm_json.specs.declared.views.NodeView.{NodeView}
use Rattle.wm_tree.specs.Sound.{IsSound}
use Rattle.wm_tree.specs.TreeValue.{TreeValue, focused, shown}
use Rattle.wm_views.specs.Maps.{holds, value_at}

-- ---- how many windows and workspaces there are

one_window : (s : Standing) (part : Part) (c : ConPart) (kind : ConKind) → length (window_by s part c kind) ≤ 1
one_window s part c (Split layout last) = omega arith
one_window s part c (Window props owner natural) = omega arith
one_window s part c (Placeholder props swallows) = omega arith

few_here : (s : Standing) (part : Part) (kind : NodeKind) → length (window_here s part (con_kind kind)) ≤ one_con kind
few_here s part (Root c) = omega arith
few_here s part (Output o) = omega arith
few_here s part (Space w) = omega arith
few_here s part (Con c) = one_window s part c c.kind

few_windows : (s : Standing) (f : Forest) → length (windows_in s f) ≤ con_count f
few_windows s end = omega arith
few_windows s (con part kids floats rest) =
    let here : length (window_here s part (con_kind part.kind)) ≤ one_con part.kind = few_here s part part.kind in
    let below : length (windows_in (kid_standing s part kids) kids) ≤ con_count kids = few_windows (kid_standing s part kids) kids in
    let beside : length (windows_in (float_standing s part) floats) ≤ con_count floats = few_windows (float_standing s part) floats in
    let behind : length (windows_in s rest) ≤ con_count rest = few_windows s rest in
    simp (length-append) (omega (arith, here, below, beside, behind))

few_spaces_here : (id : ConId) (o : OutputPart) (part : Part) (kind : NodeKind) (kids floats : Forest) → length (space_here id o part (space_kind kind) kids floats) ≤ one_space kind
few_spaces_here id o part (Root c) kids floats = omega arith
few_spaces_here id o part (Output p) kids floats = omega arith
few_spaces_here id o part (Space w) kids floats = omega arith
few_spaces_here id o part (Con c) kids floats = omega arith

few_spaces_on : (id : ConId) (o : OutputPart) (f : Forest) → length (spaces_on id o f) ≤ space_count f
few_spaces_on id o end = omega arith
few_spaces_on id o (con part kids floats rest) =
    let here : length (space_here id o part (space_kind part.kind) kids floats) ≤ one_space part.kind = few_spaces_here id o part part.kind kids floats in
    let behind : length (spaces_on id o rest) ≤ space_count rest = few_spaces_on id o rest in
    simp (length-append) (omega (arith, here, behind))

few_spaces_of : (id : ConId) (o : Option OutputPart) (f : Forest) → length (spaces_of id o f) ≤ space_count f
few_spaces_of id None f = omega arith
few_spaces_of id (Some o) f = few_spaces_on id o f

few_spaces_in : (f : Forest) → length (spaces_in f) ≤ space_count f
few_spaces_in end = omega arith
few_spaces_in (con part kids floats rest) =
    let below : length (spaces_of part.id (output_kind part.kind) kids) ≤ space_count kids = few_spaces_of part.id (output_kind part.kind) kids in
    let behind : length (spaces_in rest) ≤ space_count rest = few_spaces_in rest in
    simp (length-append) (omega (arith, below, behind))

first_few : (f : Forest) → space_count (first_kids f) ≤ space_count f
first_few end = omega arith
first_few (con part kids floats rest) = omega arith

put_few : (ws : List WindowFact) (done : List (ℕ × WindowFact)) → length (values_of (put_windows ws done)) ≤ length ws + length (values_of done)
put_few [] done = omega arith
put_few (w ∷ ws) done =
    let rest : length (values_of (put_windows (w ∷ ws) done)) ≤ length ws + length (values_of (insert_entry nat_cmp done w.part.id.0 w)) = put_few ws (insert_entry nat_cmp done w.part.id.0 w) in
    let one : length (values_of (insert_entry nat_cmp done w.part.id.0 w)) ≤ suc (length (values_of done)) = length_insert w.part.id.0 w done in
    omega (arith, rest, one)

put_few_spaces : (ss : List SpaceFact) (done : List (ℕ × SpaceFact)) → length (values_of (put_spaces ss done)) ≤ length ss + length (values_of done)
put_few_spaces [] done = omega arith
put_few_spaces (s ∷ ss) done =
    let rest : length (values_of (put_spaces (s ∷ ss) done)) ≤ length ss + length (values_of (insert_entry nat_cmp done s.part.id.0 s)) = put_few_spaces ss (insert_entry nat_cmp done s.part.id.0 s) in
    let one : length (values_of (insert_entry nat_cmp done s.part.id.0 s)) ≤ suc (length (values_of done)) = length_insert s.part.id.0 s done in
    omega (arith, rest, one)

windows_few : (t : TreeValue) → IsSound t → length (values_of (windows t)) ≤ 4096
windows_few t sound =
    let put : length (values_of (windows t)) ≤ length (windows_in top t.nodes) + 0 = put_few (windows_in top t.nodes) [] in
    let all : length (windows_in top t.nodes) ≤ con_count t.nodes = few_windows top t.nodes in
    let few : con_count t.nodes ≤ 4096 = sound.few in
    omega (arith, put, all, few)

spaces_few : (t : TreeValue) → IsSound t → length (values_of (spaces t)) ≤ 256
spaces_few t sound =
    let put : length (values_of (spaces t)) ≤ length (spaces_in (first_kids t.nodes)) + 0 = put_few_spaces (spaces_in (first_kids t.nodes)) [] in
    let all : length (spaces_in (first_kids t.nodes)) ≤ space_count (first_kids t.nodes) = few_spaces_in (first_kids t.nodes) in
    let first : space_count (first_kids t.nodes) ≤ space_count t.nodes = first_few t.nodes in
    let few : space_count t.nodes ≤ 256 = sound.few_spaces in
    omega (arith, put, all, first, few)

-- ---- how many events there are of each

told_few : (event : Change → EventBody) (words : List Word) → length (told event words) ≤ length words
told_few event [] = omega arith
told_few event (w ∷ words) = by_flag w.0 (told_few event words)
  where
    by_flag : (b : Bool) → length (told event words) ≤ length words → length (cond b (event w.1 ∷ told event words) (told event words)) ≤ suc (length words)
    by_flag true h = omega arith
    by_flag false h = omega arith

window_words_few : (t u : TreeValue) (found : Option WindowFact) (w : WindowFact) → length (window_words t u found w) ≤ 6
window_words_few t u None w = omega arith
window_words_few t u (Some v) w = omega arith

space_words_few : (found : Option SpaceFact) (s : SpaceFact) → length (space_words found s) ≤ 2
space_words_few None s = omega arith
space_words_few (Some r) s = omega arith

each_few : {A : Type 0} (f : A → List EventBody) (k : ℕ) → ((x : A) → length (f x) ≤ k) → (xs : List A) → length (flat_map f xs) ≤ k * length xs
each_few f k h [] = omega arith
each_few f k h (x ∷ xs) =
    let one : length (f x) ≤ k = h x in
    let rest : length (flat_map f xs) ≤ k * length xs = each_few f k h xs in
    let both : k * suc (length xs) ≡ k + k * length xs = grind arith in
    simp (length-append) (omega (arith, one, rest, both))

if_few : (b : Bool) (x : EventBody) → length (cond b (x ∷ []) []) ≤ 1
if_few true x = omega arith
if_few false x = omega arith

space_focus_few : (b : Bool) (old view : Option NodeView) → length (cond b [] (focus_event old view)) ≤ 1
space_focus_few true old view = omega arith
space_focus_few false old None = omega arith
space_focus_few false old (Some v) = omega arith

window_focus_few : (b : Bool) (view : Option NodeView) → length (cond b [] (focus_of view)) ≤ 1
window_focus_few true view = omega arith
window_focus_few false None = omega arith
window_focus_few false (Some v) = omega arith

space_line_few : (t u : TreeValue) (b : List Placed) (s : SpaceFact) → length (space_line t u b s) ≤ 2
space_line_few t u b s =
    let all : length (space_line t u b s) ≤ length (space_words (value_at (spaces t) s.part.id) s) = told_few (space_event (space_view u b s)) (space_words (value_at (spaces t) s.part.id) s) in
    let few : length (space_words (value_at (spaces t) s.part.id) s) ≤ 2 = space_words_few (value_at (spaces t) s.part.id) s in
    omega (arith, all, few)

window_line_few : (t u : TreeValue) (b : List Placed) (w : WindowFact) → length (window_line t u b w) ≤ 6
window_line_few t u b w =
    let all : length (window_line t u b w) ≤ length (window_words t u (value_at (windows t) w.part.id) w) = told_few (window_event (window_view u b w)) (window_words t u (value_at (windows t) w.part.id) w) in
    let few : length (window_words t u (value_at (windows t) w.part.id) w) ≤ 6 = window_words_few t u (value_at (windows t) w.part.id) w in
    omega (arith, all, few)

close_line_few : (t : TreeValue) (a : List Placed) (u : TreeValue) (w : WindowFact) → length (close_line t a u w) ≤ 1
close_line_few t a u w = told_few (window_event (window_view t a w)) ((not (holds (windows u) w.part.id), Close) ∷ [])

empty_line_few : (t : TreeValue) (a : List Placed) (u : TreeValue) (s : SpaceFact) → length (empty_line t a u s) ≤ 1
empty_line_few t a u s = told_few (space_event (space_view t a s)) ((not (holds (spaces u) s.part.id), Empty) ∷ [])

-- six of each window that is there, two of each workspace, one of each that was, one of outputs, and two of what is focused
pub few : (t : TreeValue) (a : List Placed) (u : TreeValue) (b : List Placed) → IsSound t → IsSound u → length (changes t a u b) ≤ 29443
few t a u b before after =
    let outputs : length (output_events t u) ≤ 1 = if_few (outputs_differ t u) body.Output in
    let begun : length (flat_map (space_line t u b) (values_of (spaces u))) ≤ 2 * length (values_of (spaces u)) = each_few (space_line t u b) 2 (space_line_few t u b) (values_of (spaces u)) in
    let changed : length (flat_map (window_line t u b) (values_of (windows u))) ≤ 6 * length (values_of (windows u)) = each_few (window_line t u b) 6 (window_line_few t u b) (values_of (windows u)) in
    let closed : length (flat_map (close_line t a u) (values_of (windows t))) ≤ 1 * length (values_of (windows t)) = each_few (close_line t a u) 1 (close_line_few t a u) (values_of (windows t)) in
    let emptied : length (flat_map (empty_line t a u) (values_of (spaces t))) ≤ 1 * length (values_of (spaces t)) = each_few (empty_line t a u) 1 (empty_line_few t a u) (values_of (spaces t)) in
    let spaces_focused : length (space_focus t a u b) ≤ 1 =
    space_focus_few (same (shown t) (shown u)) (option_map (space_view t a) (value_at (spaces t) (shown t))) (option_map (space_view u b) (value_at (spaces u) (shown u))) in
    let windows_focused : length (window_focus t u b) ≤ 1 = window_focus_few (same (focused t) (focused u)) (option_map (window_view u b) (value_at (windows u) (focused u))) in
    let old_windows : length (values_of (windows t)) ≤ 4096 = windows_few t before in
    let new_windows : length (values_of (windows u)) ≤ 4096 = windows_few u after in
    let old_spaces : length (values_of (spaces t)) ≤ 256 = spaces_few t before in
    let new_spaces : length (values_of (spaces u)) ≤ 256 = spaces_few u after in
    simp (length-append) (omega (arith, outputs, begun, changed, closed, emptied, spaces_focused, windows_focused, old_windows, new_windows, old_spaces, new_spaces))
