-- Commands on floating windows keep what lasts.
use Rattle.std.proofs.Common.{◌≡◌, ◌≢◌, ℤ, Bool, true, false, cond, inl, inr, Option, None, Some, refl}
use Rattle.std.specs.Option.{option_map}
use Rattle.wm_base.specs.declared.errors.ErrorText.TheVariants as texts
use Rattle.wm_base.specs.declared.errors.Refusal.TheVariants.{NoTarget}
use Rattle.wm_base.specs.declared.ids.ConId.{ConId}
use Rattle.wm_floats.proofs.FloatLemmas.{coming_goal, first_is, float_goal, hidden_is, window_con, window_is}
use Rattle.wm_floats.specs.declared.kinds.Kind.TheVariants as kinds
use Rattle.wm_floats.specs.Floating.{IsGoal, float_refusal, float_tree, floated, floated_refusal, floating_rect}
use Rattle.wm_floats.specs.Kinds.{is_of_space, latest, raised_some}
use Rattle.wm_floats.specs.Placing.{place_at_refusal, place_at_tree}
use Rattle.wm_floats.specs.Scratchpad.{brought, brought_refusal, coming_place, first_brought, first_brought_refusal, first_hidden, latest_or_first, latest_or_first_refusal, put_away, put_away_refusal, show_next_refusal, show_next_tree, show_scratchpad_refusal, show_scratchpad_tree, show_this_refusal}
use Rattle.wm_floats.specs.Windows.{restated, state_of, sticky_set, window_refusal}
use Rattle.law_lasting.specs.Changes.{KeepsState, stows}
use Rattle.law_lasting.proofs.PlaceLemmas.{first_is_hidden, natural_window, tiled_floats, tiled_out}
use Rattle.law_lasting.proofs.RectLemmas.{coming_fits, floating_fits, placed_fits}
use Rattle.law_lasting.specs.Lasting.{Lasts}
use Rattle.law_lasting.specs.Rects.{FitsRect, Floats, RectsFit}
use Rattle.wm_opens.proofs.SureLemmas.{not_full}
use Rattle.wm_opens.proofs.SureSpaces.{none_of_two}
use Rattle.wm_opens.specs.Opens.{is_window_of}
use Rattle.wm_shared.proofs.ShowLemmas.{workspace_is}
use Rattle.wm_shared.specs.Refusing.{full_error}
use Rattle.wm_shared.specs.Subject.{IsSubject, is_hidden}
use Rattle.wm_shared.specs.Rects.{rect_of}
use Rattle.wm_tree.proofs.MoveLemmas.{sound-moved}
use Rattle.wm_forest.specs.declared.part.ConState.{ConState}
use Rattle.wm_forest.specs.declared.place.Place.{Place}
use Rattle.wm_forest.specs.declared.place.Place.TheVariants.{Float}
use Rattle.wm_forest.specs.Place.{tiles}
use Rattle.wm_forest.specs.Look.{con_kind, kind_of, output_kind}
use Rattle.wm_tree.specs.Move.{moved, passed_by_move}
use Rattle.wm_tree.specs.Sound.{IsSound}
use Rattle.wm_tree.specs.TreeValue.{TreeValue, current, focused, is_tiled_con, shown, workspace_of}

pub sound_moved : (c : ConId) (q : Place) (t : TreeValue) → IsSound t → IsGoal c q t → full_error (passed_by_move c q t.nodes) ≡ None → IsSound (moved c q t)
sound_moved c q t s g fits = sound-moved c q t (g.2.0 g.0) g.0 g.1 (g.2.2 g.0 g.1) g.2.1 (not_full (passed_by_move c q t.nodes) fits) s

module _ {P : TreeValue → Type 0} (k : Lasts P) where
  -- ---- states

  -- another state, where the container has one, that keeps the fullscreen, the flag and a rectangle
  pub last_restated : (c : ConId) (f : ConState → ConState) (t : TreeValue) → ((s : ConState) → KeepsState s (f s)) → ((s : ConState) → RectsFit t → FitsRect s.rect → FitsRect (f s).rect) → P t
      → P (restated c (option_map f (state_of c t)) t)
  last_restated c f t keeps rects p = by (state_of c t) refl
    where
      by : (o : Option ConState) → state_of c t ≡ o → P (restated c (option_map f o) t)
      by None e = p
      by (Some s) e = k.restating c s (f s) t e (keeps s) (rects s) p

  pub last_stuck : (on : Bool) (c : ConId) (t : TreeValue) → P t → P (sticky_set on c t)
  last_stuck on c t p = last_restated c (λ (z : ConState). record z { sticky = on }) t (λ s. (refl, refl, λ h. h)) (λ s r h. h) p

  pub last_placed : (c : ConId) (x y : ℤ) (t : TreeValue) → place_at_refusal c x y t ≡ None → P t → P (place_at_tree c x y t)
  last_placed c x y t fits p = last_restated c (λ (z : ConState). record z { rect = Some (record { x = x; y = y; w = (rect_of c t).w; h = (rect_of c t).h }) }) t (λ s. (refl, refl, λ h. refl)) (λ s r h. placed_fits c x y t fits r) p

  -- ---- places

  pub last_kind : (c : Option ConId) (t : TreeValue) → IsSound t → P t → P (raised_some c t)
  last_kind None t s p = p
  last_kind (Some c) t s p = k.raising c t s p

  -- a move to a place outside the scratchpad
  pub last_moved : (c : ConId) (q : Place) (t : TreeValue) → IsSound t → IsGoal c q t → stows q ≡ false → Floats c q t → full_error (passed_by_move c q t.nodes) ≡ None → P t → P (moved c q t)
  last_moved c q t s g out may fits p = k.moving c q t s g out may (sound_moved c q t s g fits) p

  -- a move to a place where containers are tiled
  pub last_tiled : (c : ConId) (q : Place) (t : TreeValue) → IsSound t → IsGoal c q t → tiles q ≡ true → full_error (passed_by_move c q t.nodes) ≡ None → P t → P (moved c q t)
  last_tiled c q t s g tiled fits p = last_moved c q t s g (tiled_out q tiled) (tiled_floats c q t tiled) fits p

  last_floated : (c : ConId) (w : Option ConId) (t : TreeValue) → workspace_of t c ≡ w → IsSound t → kind_of con_kind c t.nodes ≢ None → is_window_of t c ≡ true → floated_refusal c w t ≡ None → P t → P (floated c w t)
  last_floated c None t e s ok window fits p = p
  last_floated c (Some w) t e s ok window fits p = step (is_tiled_con t c) fits
    where
      step : (b : Bool) → cond b (full_error (passed_by_move c (Float w (floating_rect c t)) t.nodes)) None ≡ None → P (cond b (moved c (Float w (floating_rect c t)) t) t)
      step true j = last_moved c (Float w (floating_rect c t)) t s (float_goal c w (floating_rect c t) t s ok (workspace_is c w t s e)) refl (floating_fits c t s, inl window) j p
      step false j = p

  pub last_float : (c : ConId) (t : TreeValue) → IsSound t → float_refusal c t ≡ None → P t → P (float_tree c t)
  last_float c t s fits p =
      let both = none_of_two (window_refusal c t) (floated_refusal c (workspace_of t c) t) fits in
      last_floated c (workspace_of t c) t refl s (window_con c t (window_is c t both.0).1) (natural_window c t (window_is c t both.0).1) both.1 p

  -- ---- the scratchpad

  last_brought : (c : ConId) (t : TreeValue) → IsSound t → kind_of con_kind c t.nodes ≢ None → is_hidden t c ≡ true → brought_refusal c t ≡ None → P t → P (brought c t)
  last_brought c t s ok hidden fits p =
      let goal : IsGoal c (coming_place c t) t = coming_goal c (coming_place c t) t refl s ok in
      k.raising c (moved c (coming_place c t) t) (sound_moved c (coming_place c t) t s goal fits) (last_moved c (coming_place c t) t s goal refl (coming_fits c (kind_of output_kind (current t) t.nodes) t, inr (inr hidden)) fits p)

  last_first : (c : Option ConId) (t : TreeValue) → first_hidden t ≡ c → IsSound t → first_brought_refusal c t ≡ None → P t → P (first_brought c t)
  last_first None t e s fits p = p
  last_first (Some c) t e s fits p = last_brought c t s (first_is t c s e) (first_is_hidden c t s e) fits p

  last_latest : (c : Option ConId) (t : TreeValue) → IsSound t → latest_or_first_refusal c t ≡ None → P t → P (latest_or_first c t)
  last_latest None t s fits p = last_first (first_hidden t) t refl s fits p
  last_latest (Some c) t s fits p = k.raising c t s p

  last_next : (t : TreeValue) → IsSound t → show_next_refusal t ≡ None → P t → P (show_next_tree t)
  last_next t s fits p = step (is_of_space kinds.Flagged (shown t) t (focused t)) refl fits
    where
      step : (b : Bool) → is_of_space kinds.Flagged (shown t) t (focused t) ≡ b → cond b (put_away_refusal (focused t) t) (latest_or_first_refusal (latest kinds.Flagged (Some (shown t)) t) t) ≡ None
          → P (cond b (put_away (focused t) t) (latest_or_first (latest kinds.Flagged (Some (shown t)) t) t))
      step true e j = k.putting_away (shown t) (focused t) t s e j p
      step false e j = last_latest (latest kinds.Flagged (Some (shown t)) t) t s j p

  last_this : (c : ConId) (t : TreeValue) → IsSubject t c → show_this_refusal c t ≡ None → P t → P (cond (is_hidden t c) (brought c t) (put_away c t))
  last_this c t sub fits p = step (is_hidden t c) (is_of_space kinds.Flagged (shown t) t c) refl refl fits
    where
      step : (b d : Bool) → is_hidden t c ≡ b → is_of_space kinds.Flagged (shown t) t c ≡ d → cond b (brought_refusal c t) (cond d (put_away_refusal c t) (Some (NoTarget texts.NoContainer))) ≡ None → P (cond b (brought c t) (put_away c t))
      step true d e f j = last_brought c t sub.sound (hidden_is c t sub e) e j p
      step false true e f j = k.putting_away (shown t) c t sub.sound f j p
      step false false e f j = cc

  pub last_scratchpad : (c : Option ConId) (t : TreeValue) → ((x : ConId) → c ≡ Some x → IsSubject t x) → IsSound t → show_scratchpad_refusal c t ≡ None → P t → P (show_scratchpad_tree c t)
  last_scratchpad None t sub s fits p = last_next t s fits p
  last_scratchpad (Some c) t sub s fits p = last_this c t (sub c refl) fits p
