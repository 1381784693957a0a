-- `floating toggle` once and twice, by where the window comes.
use Rattle.std.proofs.Common.{◌≡◌, ◌≢◌, ℕ, Bool, true, false, cond, ◌&&◌, not, Option, None, Some, refl, ap, sym, ◌∙◌, subst}
use Rattle.std.specs.Option.{option_map, option_or}
use Rattle.std.specs.Prelude.{is_some}
use Rattle.law_layouts.proofs.LeafPlaces.{float_place, sink_place}
use Rattle.law_layouts.proofs.MoveLooks.{Moved, arrived, has_moved}
use Rattle.law_layouts.proofs.StateChanges.{restated_is, tiled_kept, with_state, workspace_kept}
use Rattle.law_layouts.specs.Afloat.{IsAfloat, TogglesAfloat, TogglesAfloatAgain, TogglesSunkAgain, floating_toggled}
use Rattle.wm_base.specs.declared.errors.Limit.{Limit}
use Rattle.wm_base.specs.declared.errors.Refusal.{Refusal}
use Rattle.wm_base.specs.declared.geometry.Rect.{Rect}
use Rattle.wm_base.specs.declared.ids.ConId.{ConId}
use Rattle.wm_floats.proofs.FloatLemmas.{float_goal, window_con, window_is}
use Rattle.wm_floats.proofs.LeafLemmas.{tiling_goal}
use Rattle.wm_floats.proofs.MovedLemmas.{as_before, moved_rect, sink_rect}
use Rattle.wm_floats.specs.declared.kinds.Kind.TheVariants as kinds
use Rattle.wm_floats.specs.Floating.{IsGoal, earlier, float_refusal, float_tree, floated, floated_refusal, floating_rect, moved_refusal, sink_refusal, sink_tree, sunk, sunk_refusal, tiling_place}
use Rattle.wm_floats.specs.Kinds.{is_of}
use Rattle.wm_floats.specs.Windows.{flag_set, natural_in, natural_of, restated, state_of, window_refusal}
use Rattle.wm_forest.proofs.EditLemmas.{fits_state}
use Rattle.wm_forest.specs.declared.kind.KindEdit.TheVariants as edits
use Rattle.wm_forest.specs.declared.part.ConState.{ConState}
use Rattle.wm_forest.specs.declared.part.NodeKind.{NodeKind}
use Rattle.wm_forest.specs.declared.part.NodeKind.TheVariants.{Root, Output, Space, Con}
use Rattle.wm_forest.specs.declared.part.Part.{Part}
use Rattle.wm_forest.specs.declared.place.Place.{Place}
use Rattle.wm_forest.specs.declared.place.Place.TheVariants.{After, Last, Float}
use Rattle.wm_forest.specs.Look.{con_kind, first_kids, first_part, kind_by, only}
use Rattle.wm_forest.specs.Place.{named, tiles}
use Rattle.wm_forest.specs.Spot.{spot_in, top}
use Rattle.wm_shared.proofs.ShowLemmas.{workspace_is}
use Rattle.wm_shared.specs.Refusing.{full_error}
use Rattle.wm_shared.specs.Subject.{is_container}
use Rattle.wm_tree.proofs.MoveLemmas.{sound-moved}
use Rattle.wm_tree.proofs.SoundLemmas.{sound-edited}
use Rattle.wm_tree.specs.Move.{apart, moved, moved_share, passed_by_move}
use Rattle.wm_tree.specs.Sound.{IsSound}
use Rattle.wm_tree.specs.TreeValue.{TreeValue, is_con, is_con_kind, is_tiled_con, is_tiled_spot, leaf, or_id, workspace_of}

-- ---- what refuses

second_none : (a b : Option Refusal) → option_or a b ≡ None → (a ≡ None) × (b ≡ None)
second_none None b h = (refl, h)
second_none (Some x) b h = cc

no_limit : (o : Option Limit) → full_error o ≡ None → o ≡ None
no_limit None h = refl
no_limit (Some l) h = cc

and_no : (a b : Bool) → b ≡ false → (a && b) ≡ false
and_no true b h = h
and_no false b h = refl

both : (a b : Bool) → (a && b) ≡ true → (a ≡ true) × (b ≡ true)
both true b h = (refl, h)
both false b h = cc

not_true : (b : Bool) → not b ≡ true → b ≡ false
not_true true h = cc
not_true false h = refl

-- ---- a window that has moved

natural_arrived : (share : ℕ) (rect : Option Rect) (away : Bool) (k : NodeKind) → natural_in (con_kind (arrived share rect away k)) ≡ natural_in (con_kind k)
natural_arrived share rect true (Root d) = refl
natural_arrived share rect true (Output o) = refl
natural_arrived share rect true (Space w) = refl
natural_arrived share rect true (Con d) = refl
natural_arrived share rect false (Root d) = refl
natural_arrived share rect false (Output o) = refl
natural_arrived share rect false (Space w) = refl
natural_arrived share rect false (Con d) = refl

con_some : (share : ℕ) (rect : Option Rect) (away : Bool) (k : NodeKind) → natural_in (con_kind k) ≢ None → (is_con_kind (arrived share rect away k) ≡ true) × (is_some (con_kind (arrived share rect away k)) ≡ true)
con_some share rect away (Root d) ok = absurd (ok refl)
con_some share rect away (Output o) ok = absurd (ok refl)
con_some share rect away (Space w) ok = absurd (ok refl)
con_some share rect true (Con d) ok = (refl, refl)
con_some share rect false (Con d) ok = (refl, refl)

con_first : (o : Option Part) → natural_in (kind_by con_kind o) ≢ None → is_con o ≡ true
con_first None ok = absurd (ok refl)
con_first (Some part) ok = by part.kind ok
  where
    by : (k : NodeKind) → natural_in (con_kind k) ≢ None → is_con_kind k ≡ true
    by (Root d) ok = absurd (ok refl)
    by (Output o) ok = absurd (ok refl)
    by (Space w) ok = absurd (ok refl)
    by (Con d) ok = refl

-- it is a window still, and a container that is tiled or not as its place says, in the workspace of the place
record Came (c : ConId) (p : Place) (w : ConId) (t : TreeValue) : Type 0 where
  sound : IsSound (moved c p t)
  window : natural_of c (moved c p t) ≢ None
  container : is_container (moved c p t) c ≡ true
  tiled : is_tiled_con (moved c p t) c ≡ tiles p
  workspace : workspace_of (moved c p t) c ≡ Some w

came : (c w : ConId) (p : Place) (t : TreeValue) → IsSound t → natural_of c t ≢ None → IsGoal c p t → Moved c p (Some w) t → passed_by_move c p t.nodes ≡ None → Came c p w t
came c w p t s window g m fits =
    let ok = window_con c t window in
    let k : NodeKind = m.was.kind in
    let was_window : natural_in (con_kind k) ≢ None = λ e. window (ap (λ o. natural_in (kind_by con_kind o)) m.found ∙ e) in
    let now : natural_of c (moved c p t) ≡ natural_in (con_kind k) =
    ap (λ o. natural_in (kind_by con_kind o)) m.lands.part ∙ natural_arrived (moved_share c p t.nodes) _ (apart t c (named p)) k in
    let some = con_some (moved_share c p t.nodes) _ (apart t c (named p)) k was_window in
    let is : is_con (first_part (only c (moved c p t).nodes)) ≡ true = ap is_con m.lands.part ∙ some.0 in
    record {
      sound = sound-moved c p t ok g.0 g.1 (g.2.2 g.0 g.1) g.2.1 fits s;
      window = λ e. was_window (sym now ∙ e);
      container = ap (λ o. is_some (kind_by con_kind o)) m.lands.part ∙ some.1;
      tiled = ap (λ z. z && is_tiled_spot (spot_in top c (moved c p t).nodes)) is ∙ m.lands.tiled;
      workspace = m.lands.space;
    }

-- ---- a tiled window floats

record Floats (c w : ConId) (t : TreeValue) : Type 0 where
  sound : IsSound (floating_toggled c t)
  window : natural_of c (floating_toggled c t) ≢ None
  tiled : is_tiled_con (floating_toggled c t) c ≡ false
  afloat : IsAfloat c w (floating_rect c t) (floating_toggled c t)

-- what is then known of it
record Rest (c w : ConId) (r : Rect) (x : TreeValue) : Type 0 where
  sound : IsSound x
  window : natural_of c x ≢ None
  tiled : is_tiled_con x c ≡ false
  container : is_container x c ≡ true
  workspace : workspace_of x c ≡ Some w
  rect : earlier c x ≡ Some r

not_floating : (c : ConId) (t : TreeValue) → is_tiled_con t c ≡ true → is_of kinds.Floating t c ≡ false
not_floating c t h = and_no (is_container t c) (not (is_tiled_con t c)) (ap not h)

floats : (c w : ConId) (t : TreeValue) → IsSound t → is_tiled_con t c ≡ true → workspace_of t c ≡ Some w → float_refusal c t ≡ None → Floats c w t
floats c w t s tiled here fine =
    let p : Place = Float w (floating_rect c t) in
    let refusals = second_none (window_refusal c t) (floated_refusal c (workspace_of t c) t) fine in
    let window = (window_is c t refusals.0).1 in
    let ok = window_con c t window in
    let fits : passed_by_move c p t.nodes ≡ None =
    no_limit (passed_by_move c p t.nodes) (ap (λ b. cond b (moved_refusal c p t) None) (sym tiled) ∙ (ap (λ o. floated_refusal c o t) (sym here) ∙ refusals.1)) in
    let g = float_goal c w (floating_rect c t) t s ok (workspace_is c w t s here) in
    let m = has_moved c p (Some w) t s g (con_first (first_part (only c t.nodes)) window) (float_place c w (floating_rect c t) t s here) in
    let k = came c w p t s window g m fits in
    let e : floating_toggled c t ≡ moved c p t =
    ap (λ b. cond b (sink_tree c t) (float_tree c t)) (not_floating c t tiled) ∙ (ap (λ o. floated c o t) here ∙ ap (λ b. cond b (moved c p t) t) tiled) in
    let Good : TreeValue → Type 0 = λ x. Rest c w (floating_rect c t) x in
    let all : Rest c w (floating_rect c t) (floating_toggled c t) =
    subst Good (sym e)
    (record {
      sound = k.sound;
      window = k.window;
      tiled = k.tiled;
      container = k.container;
      workspace = k.workspace;
      rect = moved_rect c p t s g ok;
    }) in
    record {
      sound = all.sound;
      window = all.window;
      tiled = all.tiled;
      afloat = record { floats = ap (λ z. z && not (is_tiled_con (floating_toggled c t) c)) all.container ∙ ap not all.tiled; workspace = all.workspace; rect = all.rect };
    }

pub toggles_afloat : TogglesAfloat
toggles_afloat c w t sub tiled here fine = (floats c w t sub.sound tiled here fine).afloat

-- ---- a floating window is tiled

record Sinks (c w : ConId) (t : TreeValue) : Type 0 where
  sound : IsSound (floating_toggled c t)
  tiled : is_tiled_con (floating_toggled c t) c ≡ true
  workspace : workspace_of (floating_toggled c t) c ≡ Some w
  rect : earlier c (floating_toggled c t) ≡ earlier c t

tiles_there : (w : ConId) (t : TreeValue) → tiles (tiling_place w t) ≡ true
tiles_there w t = by (is_tiled_con t (or_id (leaf t w) w))
  where
    by : (b : Bool) → tiles (cond b (After (or_id (leaf t w) w)) (Last w)) ≡ true
    by true = refl
    by false = refl

flag_sound : (c : ConId) (t : TreeValue) → IsSound t → IsSound (flag_set false c t)
flag_sound c t s = by (state_of c t)
  where
    by : (o : Option ConState) → IsSound (restated c (option_map (λ (s : ConState). record s { flagged = false }) o) t)
    by None = s
    by (Some x) = sound-edited c (edits.State (record x { flagged = false })) t (fits_state (record x { flagged = false }) (spot_in top c t.nodes) (first_kids (only c t.nodes))) s

sinks : (c w : ConId) (t : TreeValue) → IsSound t → is_of kinds.Floating t c ≡ true → workspace_of t c ≡ Some w → sink_refusal c t ≡ None → Sinks c w t
sinks c w t s floating here fine =
    let loose : is_tiled_con t c ≡ false = not_true (is_tiled_con t c) (both (is_container t c) (not (is_tiled_con t c)) floating).1 in
    let p : Place = tiling_place w t in
    let refusals = second_none (window_refusal c t) (sunk_refusal c (workspace_of t c) t) fine in
    let window = (window_is c t refusals.0).1 in
    let ok = window_con c t window in
    let fits : passed_by_move c p t.nodes ≡ None =
    no_limit (passed_by_move c p t.nodes) (ap (λ b. cond b None (moved_refusal c p t)) (sym loose) ∙ (ap (λ o. sunk_refusal c o t) (sym here) ∙ refusals.1)) in
    let g = tiling_goal c w t s window here loose in
    let m = has_moved c p (Some w) t s g (con_first (first_part (only c t.nodes)) window) (sink_place c w t s here) in
    let k = came c w p t s window g m fits in
    let v : TreeValue = moved c p t in
    let flat : flag_set false c v ≡ with_state (λ z. record z { flagged = false }) c v = restated_is (λ z. record z { flagged = false }) c v in
    let e : floating_toggled c t ≡ flag_set false c v =
    ap (λ b. cond b (sink_tree c t) (float_tree c t)) floating ∙ (ap (λ o. sunk c o t) here ∙ ap (λ b. cond b t (flag_set false c v)) loose) in
    record {
      sound = subst IsSound (sym e) (flag_sound c v k.sound);
      tiled = ap (λ x. is_tiled_con x c) (e ∙ flat) ∙ (tiled_kept (λ z. record z { flagged = false }) c v ∙ (k.tiled ∙ tiles_there w t));
      workspace = ap (λ x. workspace_of x c) (e ∙ flat) ∙ (workspace_kept (λ z. record z { flagged = false }) c c v ∙ k.workspace);
      rect = sink_rect c w p t v (floating_toggled c t) refl refl e s g ok;
    }

pub toggles_sunk_again : TogglesSunkAgain
toggles_sunk_again c w t sub tiled here fine after =
    let f = floats c w t sub.sound tiled here fine in
    let k = sinks c w (floating_toggled c t) f.sound f.afloat.floats f.afloat.workspace after in
    record { tiled = k.tiled; workspace = k.workspace; rect = k.rect ∙ f.afloat.rect }

pub toggles_afloat_again : TogglesAfloatAgain
toggles_afloat_again c w r t sub a fine after =
    let k = sinks c w t sub.sound a.floats a.workspace fine in
    let f = floats c w (floating_toggled c t) k.sound k.tiled k.workspace after in
    record { floats = f.afloat.floats; workspace = f.afloat.workspace; rect = f.afloat.rect ∙ ap (λ z. Some z) (as_before c r (floating_toggled c t) (k.rect ∙ a.rect)) }
