-- The windows and workspaces that are told to be new or gone.
use Rattle.std.proofs.Common.{◌≡◌, ℕ, Bool, true, false, cond, not, List, [], ◌∷◌, ◌++◌, Option, Some, None, is_some, option_map, map, filter, codes, append-nil, refl, ap, ap₂, ◌∙◌}
use Rattle.std.proofs.lemmas.Grind.{flat_map-append}
use Rattle.std.specs.List.{AllByRecursion, flat_map}
use Rattle.std.specs.Map.{values_of}
use Rattle.wm_arrange.specs.declared.parts.Placed.{Placed}
use Rattle.wm_changes.specs.declared.words.Change.{Change}
use Rattle.wm_changes.specs.declared.words.Change.TheVariants.{Close, Empty, Focus}
use Rattle.wm_changes.specs.Changes.{above, changes, close_line, empty_line, focus_event, focus_of, output_events, space_event, space_focus, space_line, space_view, told, window_event, window_focus, window_line, window_view}
use Rattle.wm_changes.specs.Differences.{Word, change_text, differences, space_words, window_words}
use Rattle.wm_changes.specs.Facts.{SpaceFact, WindowFact, spaces, windows}
use Rattle.wm_changes.specs.Laws.{other_spaces, other_windows, space_told, spaces_told, window_told, windows_told}
use Rattle.wm_changes.specs.OutputChanges.{outputs_differ}
use Rattle.wm_forest.specs.declared.part.ConKind.{ConKind}
use Rattle.wm_forest.specs.declared.part.ConKind.TheVariants.{Split, Window, Placeholder}
use Rattle.wm_forest.specs.declared.part.ConPart.{ConPart}
use Rattle.wm_forest.specs.declared.part.Part.{Part}
use Rattle.wm_forest.specs.Forest.{end}
use Rattle.wm_forest.specs.Look.{same}
use Rattle.wm_json.specs.declared.views.EventBody.{EventBody}
use Rattle.wm_json.specs.declared.views.EventBody.TheVariants as body
use Rattle.wm_json.specs.declared.views.NodeView.{NodeView}
use Rattle.wm_json.specs.declared.views.NodeView.TheViews.{out-NodeView, out-roll-NodeView}
use Rattle.wm_json.specs.declared.views.NodeView.TheOpen.{NodeView-F}
use Rattle.wm_tree.specs.TreeValue.{TreeValue, focused, shown}
use Rattle.wm_views.specs.declared.cons.Above.{Above}
use Rattle.wm_views.specs.Maps.{holds, value_at}
use Rattle.wm_views.specs.Nodes.{con_node, space_node}

-- ---- what is picked out of events

module _ {A X : Type 0} where
  -- where nothing is picked of each, nothing is picked of all
  none_picked : (pick : EventBody → List X) (f : A → List EventBody) → ((x : A) → flat_map pick (f x) ≡ []) → (xs : List A) → flat_map pick (flat_map f xs) ≡ []
  none_picked pick f none [] = refl
  none_picked pick f none (x ∷ xs) = flat_map-append pick (f x) (flat_map f xs) ∙ ap₂ (λ ys zs. ys ++ zs) (none x) (none_picked pick f none xs)

  cond_front : (b : Bool) (y : X) (g : A → X) (p : A → Bool) (x : A) (xs : List A) → p x ≡ b → g x ≡ y → cond b (y ∷ []) [] ++ map g (filter p xs) ≡ map g (filter p (x ∷ xs))
  cond_front true y g p x xs is gives = rw (is, gives) refl
  cond_front false y g p x xs is gives = rw (is) refl

  -- where one is picked of those that pass, these are picked of all
  some_picked : (pick : EventBody → List X) (f : A → List EventBody) (g : A → X) (p : A → Bool) → ((x : A) → flat_map pick (f x) ≡ cond (p x) (g x ∷ []) []) → (xs : List A)
      → flat_map pick (flat_map f xs) ≡ map g (filter p xs)
  some_picked pick f g p each [] = refl
  some_picked pick f g p each (x ∷ xs) =
      flat_map-append pick (f x) (flat_map f xs) ∙ (ap₂ (λ ys zs. ys ++ zs) (each x) (some_picked pick f g p each xs) ∙ cond_front (p x) (g x) g p x xs refl refl)

-- a word of which nothing is picked
abbrev IsPassed : {X : Type 0} → (EventBody → List X) → (Change → EventBody) → List Word → Type 0
IsPassed pick event words = AllByRecursion (λ w. pick (event w.1) ≡ []) words

none_told : {X : Type 0} (pick : EventBody → List X) (event : Change → EventBody) (words : List Word) → IsPassed pick event words → flat_map pick (told event words) ≡ []
none_told pick event [] h = refl
none_told pick event (w ∷ words) h = by_flag w.0 (none_told pick event words h.1)
  where
    by_flag : (b : Bool) → flat_map pick (told event words) ≡ [] → flat_map pick (cond b (event w.1 ∷ told event words) (told event words)) ≡ []
    by_flag true rest = ap₂ (λ ys zs. ys ++ zs) h.0 rest
    by_flag false rest = rest

-- the words of windows and workspaces
all_passed : {X : Type 0} (pick : EventBody → List X) (event : Change → EventBody) (words : List Word) → ((c : Change) → pick (event c) ≡ []) → IsPassed pick event words
all_passed pick event [] h = tt
all_passed pick event (w ∷ words) h = (h w.1, all_passed pick event words h)

-- where it is picked of none of its events, nothing is picked
none_passed : {X : Type 0} (pick : EventBody → List X) (event : Change → EventBody) (words : List Word) → ((c : Change) → pick (event c) ≡ []) → flat_map pick (told event words) ≡ []
none_passed pick event words h = none_told pick event words (all_passed pick event words h)

-- ---- ids of views

abbrev Shown : Type 0
Shown = NodeView-F NodeView

node_id : (t : TreeValue) (parts : List Placed) (over : Above) (part : Part) (c : ConPart) (kind : ConKind) → (con_node t parts over part c kind end).id ≡ part.id.0
node_id t parts over part c (Split layout last) = refl
node_id t parts over part c (Window props owner natural) = refl
node_id t parts over part c (Placeholder props swallows) = refl

window_id : (t : TreeValue) (parts : List Placed) (w : WindowFact) → (out-NodeView (window_view t parts w)).id ≡ w.part.id.0
window_id t parts w =
    ap (λ (v : Shown). v.id) (out-roll-NodeView (con_node t parts (above parts w.standing) w.part w.state w.state.kind end)) ∙ node_id t parts (above parts w.standing) w.part w.state w.state.kind

space_id : (t : TreeValue) (parts : List Placed) (s : SpaceFact) → (out-NodeView (space_view t parts s)).id ≡ s.part.id.0
space_id t parts s = ap (λ (v : Shown). v.id) (out-roll-NodeView (space_node t parts s.output s.part s.state s.kids s.floats))

-- ---- windows

abbrev pick_new : EventBody → List ℕ
pick_new = window_told (codes "new")

abbrev pick_closed : EventBody → List ℕ
pick_closed = window_told (codes "close")

new_of : (t u : TreeValue) (b : List Placed) (found : Option WindowFact) (w : WindowFact)
    → flat_map pick_new (told (window_event (window_view u b w)) (window_words t u found w)) ≡ cond (not (is_some found)) (w.part.id.0 ∷ []) []
new_of t u b None w = ap (λ n. n ∷ []) (window_id u b w)
new_of t u b (Some v) w = none_told pick_new (window_event (window_view u b w)) (differences t u v w) (refl, (refl, (refl, (refl, (refl, (refl, tt))))))

new_not_closed : (t u : TreeValue) (b : List Placed) (found : Option WindowFact) (w : WindowFact) → flat_map pick_closed (told (window_event (window_view u b w)) (window_words t u found w)) ≡ []
new_not_closed t u b None w = none_told pick_closed (window_event (window_view u b w)) (window_words t u None w) (refl, tt)
new_not_closed t u b (Some v) w = none_told pick_closed (window_event (window_view u b w)) (differences t u v w) (refl, (refl, (refl, (refl, (refl, (refl, tt))))))

closed_of : (t : TreeValue) (a : List Placed) (gone : Bool) (w : WindowFact) → flat_map pick_closed (told (window_event (window_view t a w)) ((gone, Close) ∷ [])) ≡ cond gone (w.part.id.0 ∷ []) []
closed_of t a true w = ap (λ n. n ∷ []) (window_id t a w)
closed_of t a false w = refl

closed_not_new : (t : TreeValue) (a : List Placed) (gone : Bool) (w : WindowFact) → flat_map pick_new (told (window_event (window_view t a w)) ((gone, Close) ∷ [])) ≡ []
closed_not_new t a gone w = none_told pick_new (window_event (window_view t a w)) ((gone, Close) ∷ []) (refl, tt)

-- ---- workspaces

abbrev pick_begun : EventBody → List ℕ
pick_begun = space_told (codes "init")

abbrev pick_emptied : EventBody → List ℕ
pick_emptied = space_told (codes "empty")

begun_of : (u : TreeValue) (b : List Placed) (found : Option SpaceFact) (s : SpaceFact) → flat_map pick_begun (told (space_event (space_view u b s)) (space_words found s)) ≡ cond (not (is_some found)) (s.part.id.0 ∷ []) []
begun_of u b None s = ap (λ n. n ∷ []) (space_id u b s)
begun_of u b (Some r) s = none_told pick_begun (space_event (space_view u b s)) (space_words (Some r) s) (refl, (refl, tt))

begun_not_emptied : (u : TreeValue) (b : List Placed) (found : Option SpaceFact) (s : SpaceFact) → flat_map pick_emptied (told (space_event (space_view u b s)) (space_words found s)) ≡ []
begun_not_emptied u b None s = none_told pick_emptied (space_event (space_view u b s)) (space_words None s) (refl, tt)
begun_not_emptied u b (Some r) s = none_told pick_emptied (space_event (space_view u b s)) (space_words (Some r) s) (refl, (refl, tt))

emptied_of : (t : TreeValue) (a : List Placed) (gone : Bool) (s : SpaceFact) → flat_map pick_emptied (told (space_event (space_view t a s)) ((gone, Empty) ∷ [])) ≡ cond gone (s.part.id.0 ∷ []) []
emptied_of t a true s = ap (λ n. n ∷ []) (space_id t a s)
emptied_of t a false s = refl

emptied_not_begun : (t : TreeValue) (a : List Placed) (gone : Bool) (s : SpaceFact) → flat_map pick_begun (told (space_event (space_view t a s)) ((gone, Empty) ∷ [])) ≡ []
emptied_not_begun t a gone s = none_told pick_begun (space_event (space_view t a s)) ((gone, Empty) ∷ []) (refl, tt)

-- ---- all events

-- what is picked of all events is what is picked of each kind of them
picked_parts : (pick : EventBody → List ℕ) (t : TreeValue) (a : List Placed) (u : TreeValue) (b : List Placed)
    → flat_map pick (changes t a u b)
    ≡ flat_map pick (output_events t u) ++ flat_map pick (flat_map (space_line t u b) (values_of (spaces u)))
    ++ flat_map pick (flat_map (window_line t u b) (values_of (windows u)))
    ++ (flat_map pick (flat_map (close_line t a u) (values_of (windows t))) ++ flat_map pick (flat_map (empty_line t a u) (values_of (spaces t))))
    ++ (flat_map pick (space_focus t a u b) ++ flat_map pick (window_focus t u b))
picked_parts pick t a u b = simp (flat_map-append) refl

outputs_unpicked : (pick : EventBody → List ℕ) (b : Bool) → pick body.Output ≡ [] → flat_map pick (cond b (body.Output ∷ []) []) ≡ []
outputs_unpicked pick true h = rw (h) refl
outputs_unpicked pick false h = refl

-- nothing is picked of what is focused
space_focus_unpicked : (pick : EventBody → List ℕ) (same : Bool) (old view : Option NodeView) → ((v : NodeView) (o : Option NodeView) → pick (body.Workspace (change_text Focus) v o) ≡ [])
    → flat_map pick (cond same [] (focus_event old view)) ≡ []
space_focus_unpicked pick true old view h = refl
space_focus_unpicked pick false old None h = refl
space_focus_unpicked pick false old (Some v) h = rw (h v old) refl

window_focus_unpicked : (pick : EventBody → List ℕ) (same : Bool) (view : Option NodeView) → ((v : NodeView) → pick (window_event v Focus) ≡ []) → flat_map pick (cond same [] (focus_of view)) ≡ []
window_focus_unpicked pick true view h = refl
window_focus_unpicked pick false None h = refl
window_focus_unpicked pick false (Some v) h = rw (h v) refl

no_outputs : (pick : EventBody → List ℕ) (t u : TreeValue) → pick body.Output ≡ [] → flat_map pick (output_events t u) ≡ []
no_outputs pick t u h = outputs_unpicked pick (outputs_differ t u) h

no_space_focus : (pick : EventBody → List ℕ) (t : TreeValue) (a : List Placed) (u : TreeValue) (b : List Placed) → ((v : NodeView) (o : Option NodeView) → pick (body.Workspace (change_text Focus) v o) ≡ [])
    → flat_map pick (space_focus t a u b) ≡ []
no_space_focus pick t a u b h =
    space_focus_unpicked pick (same (shown t) (shown u)) (option_map (space_view t a) (value_at (spaces t) (shown t))) (option_map (space_view u b) (value_at (spaces u) (shown u))) h

no_window_focus : (pick : EventBody → List ℕ) (t u : TreeValue) (b : List Placed) → ((v : NodeView) → pick (window_event v Focus) ≡ []) → flat_map pick (window_focus t u b) ≡ []
no_window_focus pick t u b h = window_focus_unpicked pick (same (focused t) (focused u)) (option_map (window_view u b) (value_at (windows u) (focused u))) h

-- what is picked is picked of these four
picked : (pick : EventBody → List ℕ) (t : TreeValue) (a : List Placed) (u : TreeValue) (b : List Placed) (begun new closed emptied : List ℕ) → pick body.Output ≡ []
    → ((v : NodeView) (o : Option NodeView) → pick (body.Workspace (change_text Focus) v o) ≡ []) → ((v : NodeView) → pick (window_event v Focus) ≡ [])
    → flat_map pick (flat_map (space_line t u b) (values_of (spaces u))) ≡ begun
    → flat_map pick (flat_map (window_line t u b) (values_of (windows u))) ≡ new
    → flat_map pick (flat_map (close_line t a u) (values_of (windows t))) ≡ closed
    → flat_map pick (flat_map (empty_line t a u) (values_of (spaces t))) ≡ emptied
    → flat_map pick (changes t a u b) ≡ begun ++ new ++ (closed ++ emptied)
picked pick t a u b begun new closed emptied no_output no_space no_window begun_is new_is closed_is emptied_is =
    picked_parts pick t a u b
    ∙ rw (no_outputs pick t u no_output, begun_is, new_is, closed_is, emptied_is, no_space_focus pick t a u b no_space, no_window_focus pick t u b no_window) (append-nil (begun ++ new ++ (closed ++ emptied)))

-- new are exactly the windows that came
pub new_came : (t : TreeValue) (a : List Placed) (u : TreeValue) (b : List Placed) → windows_told (codes "new") (changes t a u b) ≡ other_windows u t
new_came t a u b =
    picked pick_new t a u b [] (other_windows u t) [] [] refl (λ v o. refl) (λ v. refl)
    (none_picked pick_new (space_line t u b) (λ s. none_passed pick_new (space_event (space_view u b s)) (space_words (value_at (spaces t) s.part.id) s) (λ c. refl)) (values_of (spaces u)))
    (some_picked pick_new (window_line t u b) (λ (w : WindowFact). w.part.id.0) (λ (w : WindowFact). not (holds (windows t) w.part.id)) (λ w. new_of t u b (value_at (windows t) w.part.id) w) (values_of (windows u)))
    (none_picked pick_new (close_line t a u) (λ w. closed_not_new t a (not (holds (windows u) w.part.id)) w) (values_of (windows t)))
    (none_picked pick_new (empty_line t a u) (λ s. none_passed pick_new (space_event (space_view t a s)) ((not (holds (spaces u) s.part.id), Empty) ∷ []) (λ c. refl)) (values_of (spaces t)))
    ∙ append-nil (other_windows u t)

-- closed are exactly the windows that went
pub closed_went : (t : TreeValue) (a : List Placed) (u : TreeValue) (b : List Placed) → windows_told (codes "close") (changes t a u b) ≡ other_windows t u
closed_went t a u b =
    picked pick_closed t a u b [] [] (other_windows t u) [] refl (λ v o. refl) (λ v. refl)
    (none_picked pick_closed (space_line t u b) (λ s. none_passed pick_closed (space_event (space_view u b s)) (space_words (value_at (spaces t) s.part.id) s) (λ c. refl)) (values_of (spaces u)))
    (none_picked pick_closed (window_line t u b) (λ w. new_not_closed t u b (value_at (windows t) w.part.id) w) (values_of (windows u)))
    (some_picked pick_closed (close_line t a u) (λ (w : WindowFact). w.part.id.0) (λ (w : WindowFact). not (holds (windows u) w.part.id)) (λ w. closed_of t a (not (holds (windows u) w.part.id)) w) (values_of (windows t)))
    (none_picked pick_closed (empty_line t a u) (λ s. none_passed pick_closed (space_event (space_view t a s)) ((not (holds (spaces u) s.part.id), Empty) ∷ []) (λ c. refl)) (values_of (spaces t)))
    ∙ append-nil (other_windows t u)

-- begun are exactly the workspaces that came
pub begun_came : (t : TreeValue) (a : List Placed) (u : TreeValue) (b : List Placed) → spaces_told (codes "init") (changes t a u b) ≡ other_spaces u t
begun_came t a u b =
    picked pick_begun t a u b (other_spaces u t) [] [] [] refl (λ v o. refl) (λ v. refl)
    (some_picked pick_begun (space_line t u b) (λ (s : SpaceFact). s.part.id.0) (λ (s : SpaceFact). not (holds (spaces t) s.part.id)) (λ s. begun_of u b (value_at (spaces t) s.part.id) s) (values_of (spaces u)))
    (none_picked pick_begun (window_line t u b) (λ w. none_passed pick_begun (window_event (window_view u b w)) (window_words t u (value_at (windows t) w.part.id) w) (λ c. refl)) (values_of (windows u)))
    (none_picked pick_begun (close_line t a u) (λ w. none_passed pick_begun (window_event (window_view t a w)) ((not (holds (windows u) w.part.id), Close) ∷ []) (λ c. refl)) (values_of (windows t)))
    (none_picked pick_begun (empty_line t a u) (λ s. emptied_not_begun t a (not (holds (spaces u) s.part.id)) s) (values_of (spaces t)))
    ∙ (append-nil (other_spaces u t ++ []) ∙ append-nil (other_spaces u t))

-- emptied are exactly the workspaces that went
pub emptied_went : (t : TreeValue) (a : List Placed) (u : TreeValue) (b : List Placed) → spaces_told (codes "empty") (changes t a u b) ≡ other_spaces t u
emptied_went t a u b =
    picked pick_emptied t a u b [] [] [] (other_spaces t u) refl (λ v o. refl) (λ v. refl)
    (none_picked pick_emptied (space_line t u b) (λ s. begun_not_emptied u b (value_at (spaces t) s.part.id) s) (values_of (spaces u)))
    (none_picked pick_emptied (window_line t u b) (λ w. none_passed pick_emptied (window_event (window_view u b w)) (window_words t u (value_at (windows t) w.part.id) w) (λ c. refl)) (values_of (windows u)))
    (none_picked pick_emptied (close_line t a u) (λ w. none_passed pick_emptied (window_event (window_view t a w)) ((not (holds (windows u) w.part.id), Close) ∷ []) (λ c. refl)) (values_of (windows t)))
    (some_picked pick_emptied (empty_line t a u) (λ (s : SpaceFact). s.part.id.0) (λ (s : SpaceFact). not (holds (spaces u) s.part.id)) (λ s. emptied_of t a (not (holds (spaces u) s.part.id)) s) (values_of (spaces t)))
