-- A command that leaves the order of recency as it was keeps each workspace and container.
use Rattle.std.proofs.Common.{◌≡◌, ℕ, Bool, true, false, cond, List, Option, None, Some, Result, Ok, Err, OnOk, OnErr, refl, ap, sym, ◌∙◌}
use Rattle.wm_base.specs.declared.errors.Refusal.{Refusal}
use Rattle.std.specs.Option.{option_map}
use Rattle.wm_base.specs.declared.geometry.Dir.{Dir}
use Rattle.wm_base.specs.declared.geometry.Rect.{Rect}
use Rattle.wm_base.specs.declared.ids.ConId.{ConId}
use Rattle.wm_floats.specs.Rounds.{shift_tree, shifted_x, shifted_y}
use Rattle.wm_floats.specs.Windows.{rect_set, restated, state_of}
use Rattle.wm_language.specs.declared.arguments.SwapArg.{SwapArg}
use Rattle.wm_forest.specs.Look.{same}
use Rattle.wm_forest.specs.declared.part.ConState.{ConState}
use Rattle.wm_forest.specs.declared.place.Place.TheVariants.{After}
use Rattle.wm_forest.specs.declared.kind.KindEdit.TheVariants as edits
use Rattle.wm_tree.specs.Move.{apart, moved}
use Rattle.wm_forest.specs.Taking.{heir}
use Rattle.wm_tree.specs.Outputs.{left_to}
use Rattle.wm_tree.specs.Sound.{IsSound}
use Rattle.wm_forest.specs.SoundRow.{ranked, times}
use Rattle.wm_tree.specs.TreeValue.{TreeValue, current, is_tiled_con, shown, workspace_of}
use Rattle.wm_forest.specs.RootId.{root}
use Rattle.wm_tree.specs.Words.{edited}
use Rattle.wm_focus.specs.Moves.{beside, entry, held_out, is_split_con, move_dir_tree, near_end, out_tree, over_tree, space_over, step_tree, turned}
use Rattle.wm_shared.specs.Outputs.{output_of}
use Rattle.wm_shared.proofs.RiseLemmas.{output_same}
use Rattle.wm_shared.specs.Showing.{current_some, entered, output_focused, shown_on, space_name}
use Rattle.wm_spaces.specs.Coming.{left_output, output_gone, output_gone_some, output_removed_tree}
use Rattle.wm_spaces.specs.Names.{output_named}
use Rattle.wm_spaces.specs.Sending.{send_to_output_tree, sent_place, sent_some}
use Rattle.wm_shared.specs.Rects.{rect_of}
use Rattle.wm_focus.specs.Marks.{holder_of}
use Rattle.wm_focus.specs.Swaps.{exchanged_with, move_to_mark_tree, moved_after, partner, swap_tree}

current_recency : (o : Option ConId) (t : TreeValue) → (current_some o t).recency ≡ t.recency
current_recency None t = refl
current_recency (Some o) t = refl

over_recency : (d : Dir) (c : ConId) (w : Option ConId) (t : TreeValue) → (over_tree d c w t).recency ≡ t.recency
over_recency d c None t = refl
over_recency d c (Some w) t = step (same (shown t) (shown new)) where
  new : TreeValue
  new = entered c (moved c (near_end d w) t)

  step : (b : Bool) → (cond b (entered c (moved c (near_end d w) t)) (record (entered c (moved c (near_end d w) t)) { previous = space_name (shown t) t })).recency ≡ t.recency
  step true = current_recency (output_of c (moved c (near_end d w) t)) (moved c (near_end d w) t)
  step false = current_recency (output_of c (moved c (near_end d w) t)) (moved c (near_end d w) t)

out_recency : (d : Dir) (c : ConId) (child : Option ConId) (t : TreeValue) → (out_tree d c child t).recency ≡ t.recency
out_recency d c None t = over_recency d c (space_over d c t) t
out_recency d c (Some child) t = refl

step_recency : (d : Dir) (c : ConId) (n : Option ConId) (t : TreeValue) → (step_tree d c n t).recency ≡ t.recency
step_recency d c None t = out_recency d c (held_out d c t) t
step_recency d c (Some n) t = by_kind (is_split_con t n)
  where
    by_kind : (b : Bool) → (cond b (moved c (entry d n t) t) (turned c n t)).recency ≡ t.recency
    by_kind true = refl
    by_kind false = refl

sent_recency : (c : ConId) (w : Option ConId) (t : TreeValue) → (sent_some w c t).recency ≡ t.recency
sent_recency c None t = refl
sent_recency c (Some w) t = by_test (apart t c w)
  where
    by_test : (b : Bool) → (cond b (moved c (sent_place c w t) t) t).recency ≡ t.recency
    by_test true = refl
    by_test false = refl

rect_recency : (r : Rect) (c : ConId) (t : TreeValue) → (rect_set r c t).recency ≡ t.recency
rect_recency r c t = by_state (state_of c t)
  where
    by_state : (s : Option ConState) → (restated c (option_map (λ (s : ConState). record s { rect = Some r }) s) t).recency ≡ t.recency
    by_state None = refl
    by_state (Some s) = refl

move_recency : (d : Dir) (c : ConId) (px : ℕ) (t : TreeValue) → (move_dir_tree c d px t).recency ≡ t.recency
move_recency d c px t = by_test (is_tiled_con t c)
  where
    by_test : (b : Bool) → (cond b (step_tree d c (beside d c t) t) (shift_tree c d px t)).recency ≡ t.recency
    by_test true = step_recency d c (beside d c t) t
    by_test false = rect_recency (record { x = shifted_x d px (rect_of c t); y = shifted_y d px (rect_of c t); w = (rect_of c t).w; h = (rect_of c t).h }) c t

after_recency : (c : ConId) (m : Option ConId) (t : TreeValue) → (moved_after c m t).recency ≡ t.recency
after_recency c None t = refl
after_recency c (Some m) t = by_test (is_tiled_con t c)
  where
    by_test : (b : Bool) → (cond b (moved c (After m) t) (sent_some (workspace_of t m) c t)).recency ≡ t.recency
    by_test true = refl
    by_test false = sent_recency c (workspace_of t m) t

with_recency : (c : ConId) (o : Option ConId) (t : TreeValue) → (exchanged_with c o t).recency ≡ t.recency
with_recency c None t = refl
with_recency c (Some o) t = refl

-- the recency after a result that says what the tree is
recency_by : (result : Result (Unit {0}) Refusal) (old new next : TreeValue) → next.recency ≡ old.recency → OnOk result (new ≡ next) → OnErr result (new ≡ old) → new.recency ≡ old.recency
recency_by (Ok x) old new next same done refused = ap (λ (t : TreeValue). t.recency) done ∙ same
recency_by (Err e) old new next same done refused = ap (λ (t : TreeValue). t.recency) refused

-- sound trees with one order of recency have the same workspaces and containers
kept : (old new : TreeValue) → IsSound old → IsSound new → new.recency ≡ old.recency → (i : ConId) → ranked i new.nodes ≡ ranked i old.nodes
kept old new s r same i = sym (r.known i) ∙ (ap (times i) same ∙ s.known i)

pub moved_keeps : (result : Result (Unit {0}) Refusal) (c : ConId) (d : Dir) (px : ℕ) (old new : TreeValue) → IsSound old → IsSound new
    → OnOk result (new ≡ move_dir_tree c d px old) → OnErr result (new ≡ old) → (i : ConId) → ranked i new.nodes ≡ ranked i old.nodes
moved_keeps result c d px old new s r done refused = kept old new s r (recency_by result old new (move_dir_tree c d px old) (move_recency d c px old) done refused)

pub marked_keeps : (result : Result (Unit {0}) Refusal) (c : ConId) (name : List ℕ) (old new : TreeValue) → IsSound old → IsSound new
    → OnOk result (new ≡ move_to_mark_tree c name old) → OnErr result (new ≡ old) → (i : ConId) → ranked i new.nodes ≡ ranked i old.nodes
marked_keeps result c name old new s r done refused = kept old new s r (recency_by result old new (move_to_mark_tree c name old) (after_recency c (holder_of name old) old) done refused)

pub swapped_keeps : (result : Result (Unit {0}) Refusal) (c : ConId) (arg : SwapArg) (old new : TreeValue) → IsSound old → IsSound new
    → OnOk result (new ≡ swap_tree c arg old) → OnErr result (new ≡ old) → (i : ConId) → ranked i new.nodes ≡ ranked i old.nodes
swapped_keeps result c arg old new s r done refused = kept old new s r (recency_by result old new (swap_tree c arg old) (with_recency c (partner arg old) old) done refused)

pub sent_keeps : (result : Result (Unit {0}) Refusal) (c o : ConId) (old new : TreeValue) → IsSound old → IsSound new
    → OnOk result (new ≡ send_to_output_tree c o old) → OnErr result (new ≡ old) → (i : ConId) → ranked i new.nodes ≡ ranked i old.nodes
sent_keeps result c o old new s r done refused = kept old new s r (recency_by result old new (send_to_output_tree c o old) (sent_recency c (shown_on o old) old) done refused)

handed_recency : (h : Option ConId) (o : ConId) (t : TreeValue) → (left_to h o t).recency ≡ t.recency
handed_recency None o t = refl
handed_recency (Some h) o t = by_test (same (current t) o)
  where
    by_test : (b : Bool) → (cond b (edited root (edits.Current h) t) t).recency ≡ t.recency
    by_test true = refl
    by_test false = refl

left_recency : (o h : ConId) (t : TreeValue) → (left_output o h t).recency ≡ t.recency
left_recency o h t = by_test (same (current t) o)
  where
    by_test : (b : Bool) → (cond b (output_focused h t) t).recency ≡ t.recency
    by_test true = (output_same h t).recency
    by_test false = refl

gone_recency : (o : Option ConId) (t : TreeValue) → (output_gone_some o t).recency ≡ t.recency
gone_recency None t = refl
gone_recency (Some o) t = by_heir (heir o t.nodes)
  where
    by_heir : (h : Option ConId) → (output_gone h o t).recency ≡ t.recency
    by_heir None = refl
    by_heir (Some h) = handed_recency (heir o (left_output o h t).nodes) o (left_output o h t) ∙ left_recency o h t

pub removed_keeps : (result : Result (Unit {0}) Refusal) (name : List ℕ) (old new : TreeValue) → IsSound old → IsSound new
    → OnOk result (new ≡ output_removed_tree name old) → OnErr result (new ≡ old) → (i : ConId) → ranked i new.nodes ≡ ranked i old.nodes
removed_keeps result name old new s r done refused = kept old new s r (recency_by result old new (output_removed_tree name old) (gone_recency (output_named name old) old) done refused)
