-- Commands on floating windows keep a sound tree sound, what is known, and containers without floating windows.
use Rattle.std.proofs.Common.{◌≡◌, ◌≢◌, ℕ, ℤ, zero, suc, ◌≤◌, Bool, true, false, cond, Option, None, Some, refl, subst, sym, arith}
use Rattle.std.specs.Option.{option_map}
use Rattle.wm_base.specs.declared.errors.ErrorText.TheVariants as texts
use Rattle.wm_base.specs.declared.errors.Refusal.TheVariants.{NoTarget}
use Rattle.wm_base.specs.declared.ids.ConId.{ConId}
use Rattle.wm_floats.proofs.FloatLemmas.{coming_goal, first_is, flagged_is, float_goal, hidden_is, hide_goal, window_con, window_is}
use Rattle.wm_floats.proofs.FullLemmas.{fulls, none_left, one_less}
use Rattle.wm_floats.proofs.LeafLemmas.{tiling_goal}
use Rattle.wm_floats.specs.declared.kinds.Kind.TheVariants as kinds
use Rattle.wm_floats.specs.Floating.{float_refusal, float_tree, floated, floated_refusal, floating_rect, sink_refusal, sink_tree, sunk, sunk_refusal, tiling_place}
use Rattle.wm_floats.specs.Fullscreen.{full_in, fullscreen_tree, others_unfull}
use Rattle.wm_floats.specs.Kinds.{is_of_space, latest, raised_some}
use Rattle.wm_floats.specs.Placing.{place_at_tree}
use Rattle.wm_floats.specs.Scratchpad.{brought, brought_refusal, coming_place, first_brought, first_brought_refusal, first_hidden, latest_or_first, latest_or_first_refusal, put_away, put_away_refusal, show_next_refusal, show_next_tree, show_scratchpad_refusal, show_scratchpad_tree, show_this_refusal, to_scratchpad_refusal, to_scratchpad_tree}
use Rattle.wm_floats.specs.Windows.{flag_set, full_set, natural_of, restated, state_of, sticky_set, window_refusal}
use Rattle.wm_opens.proofs.FloatLemmas.{kept_others}
use Rattle.wm_opens.proofs.SureLemmas.{Sure, may_move, sure_by, sure_edited, sure_moved, sure_raised, sure_refl, sure_trans}
use Rattle.wm_opens.proofs.SureSpaces.{fits_all, none_of_two}
use Rattle.wm_opens.proofs.TidyLemmas.{tidy_unfull_but}
use Rattle.wm_shared.proofs.ShowLemmas.{workspace_is}
use Rattle.wm_shared.specs.Refusing.{full_error}
use Rattle.wm_shared.specs.Subject.{IsSubject, is_hidden}
use Rattle.wm_shared.specs.Rects.{rect_of}
use Rattle.wm_tree.proofs.SoundLemmas.{sound-edited}
use Rattle.wm_forest.specs.declared.kind.KindEdit.TheVariants as edits
use Rattle.wm_forest.specs.declared.part.ConState.{ConState}
use Rattle.wm_forest.specs.declared.place.Place.TheVariants.{Float, Scratchpad}
use Rattle.wm_forest.specs.Look.{con_kind, first_kids, kind_of, only}
use Rattle.wm_tree.specs.Move.{moved, passed_by_move}
use Rattle.wm_tree.specs.Sound.{IsSound}
use Rattle.wm_forest.specs.Spot.{spot_in, top}
use Rattle.wm_tree.specs.TreeValue.{TreeValue, focused, is_tiled_con, shown, workspace_of}
use Rattle.wm_tree.specs.Words.{with_raised}

-- ---- states

pub sure_restated : (c : ConId) (o : Option ConState) (t : TreeValue) → IsSound t → Sure t (restated c o t)
sure_restated c None t s = sure_refl t s
sure_restated c (Some state) t s = sure_edited c (edits.State state) t refl (sound-edited c (edits.State state) t (fits_all (edits.State state) (λ b kids. tt) (spot_in top c t.nodes) (first_kids (only c t.nodes))) s)

pub sure_stuck : (on : Bool) (c : ConId) (t : TreeValue) → IsSound t → Sure t (sticky_set on c t)
sure_stuck on c t s = sure_restated c (option_map (λ (z : ConState). record z { sticky = on }) (state_of c t)) t s

sure_full_set : (on : Bool) (c : ConId) (t : TreeValue) → IsSound t → Sure t (full_set on c t)
sure_full_set on c t s = sure_restated c (option_map (λ (z : ConState). record z { fullscreen = on }) (state_of c t)) t s

sure_flag_set : (on : Bool) (c : ConId) (t : TreeValue) → IsSound t → Sure t (flag_set on c t)
sure_flag_set on c t s = sure_restated c (option_map (λ (z : ConState). record z { flagged = on }) (state_of c t)) t s

pub sure_placed : (c : ConId) (x y : ℤ) (t : TreeValue) → IsSound t → Sure t (place_at_tree c x y t)
sure_placed c x y t s = sure_restated c (option_map (λ (z : ConState). record z { rect = Some (record { x = x; y = y; w = (rect_of c t).w; h = (rect_of c t).h }) }) (state_of c t)) t s

-- the others of a workspace lose fullscreen one after another, of at most n
sound_others : (n : ℕ) (c w : ConId) (t : TreeValue) → fulls c t.nodes ≤ n → IsSound t → IsSound (others_unfull c (Some w) t)
sound_others zero c w t few s = by (full_in w c t.nodes) refl
  where
    by : (o : Option ConId) → full_in w c t.nodes ≡ o → IsSound (others_unfull c (Some w) t)
    by None e = subst IsSound (sym (none_left w c t e)) s
    by (Some i) e = let less = (one_less w c i t (full_set false i t) s e refl).1 in absurd (omega (arith, few, less))
sound_others (suc n) c w t few s = by (full_in w c t.nodes) refl (λ x k r. sound_others n c w x k r)
  where
    by : (o : Option ConId) → full_in w c t.nodes ≡ o → ((x : TreeValue) → fulls c x.nodes ≤ n → IsSound x → IsSound (others_unfull c (Some w) x)) → IsSound (others_unfull c (Some w) t)
    by None e next = subst IsSound (sym (none_left w c t e)) s
    by (Some i) e next =
        let one = one_less w c i t (full_set false i t) s e refl in
        let less = one.1 in
        subst IsSound one.0 (next (full_set false i t) (omega (arith, few, less)) (sure_full_set false i t s).sound)

sure_others : (c : ConId) (w : Option ConId) (t : TreeValue) → IsSound t → Sure t (others_unfull c w t)
sure_others c None t s = sure_refl t s
sure_others c (Some w) t s = sure_by t (others_unfull c (Some w) t) (sound_others (fulls c t.nodes) c w t (omega arith) s) (kept_others c (Some w) t) refl (tidy_unfull_but w c t.nodes)

pub sure_fullscreen : (c : ConId) (on : Bool) (t : TreeValue) → IsSound t → Sure t (fullscreen_tree c on t)
sure_fullscreen c true t s =
    let alone : TreeValue = others_unfull c (workspace_of t c) t in
    let first : Sure t (others_unfull c (workspace_of t c) t) = sure_others c (workspace_of t c) t s in
    sure_trans t alone (full_set true c alone) first (sure_full_set true c alone first.sound)
sure_fullscreen c false t s = sure_full_set false c t s

-- ---- places

pub sure_kind : (c : Option ConId) (t : TreeValue) → IsSound t → Sure t (raised_some c t)
sure_kind None t s = sure_refl t s
sure_kind (Some c) t s = sure_raised c t s

sure_floated : (c : ConId) (w : Option ConId) (t : TreeValue) → workspace_of t c ≡ w → IsSound t → kind_of con_kind c t.nodes ≢ None → floated_refusal c w t ≡ None → Sure t (floated c w t)
sure_floated c None t e s ok fits = sure_refl t s
sure_floated c (Some w) t e s ok fits = step (is_tiled_con t c) fits
  where
    step : (b : Bool) → cond b (full_error (passed_by_move c (Float w (floating_rect c t)) t.nodes)) None ≡ None → Sure t (cond b (moved c (Float w (floating_rect c t)) t) t)
    step true k = sure_moved c (Float w (floating_rect c t)) t s (may_move c (Float w (floating_rect c t)) t (float_goal c w (floating_rect c t) t s ok (workspace_is c w t s e))) k
    step false k = sure_refl t s

pub sure_float : (c : ConId) (t : TreeValue) → IsSound t → float_refusal c t ≡ None → Sure t (float_tree c t)
sure_float c t s fits =
    let both = none_of_two (window_refusal c t) (floated_refusal c (workspace_of t c) t) fits in
    sure_floated c (workspace_of t c) t refl s (window_con c t (window_is c t both.0).1) both.1

sure_sunk : (c : ConId) (w : Option ConId) (t : TreeValue) → workspace_of t c ≡ w → IsSound t → natural_of c t ≢ None → sunk_refusal c w t ≡ None → Sure t (sunk c w t)
sure_sunk c None t e s ok fits = sure_refl t s
sure_sunk c (Some w) t e s ok fits = step (is_tiled_con t c) refl fits
  where
    step : (b : Bool) → is_tiled_con t c ≡ b → cond b None (full_error (passed_by_move c (tiling_place w t) t.nodes)) ≡ None → Sure t (cond b t (flag_set false c (moved c (tiling_place w t) t)))
    step true d k = sure_refl t s
    step false d k =
        let tiled : TreeValue = moved c (tiling_place w t) t in
        let first : Sure t (moved c (tiling_place w t) t) = sure_moved c (tiling_place w t) t s (may_move c (tiling_place w t) t (tiling_goal c w t s ok e d)) k in
        sure_trans t tiled (flag_set false c tiled) first (sure_flag_set false c tiled first.sound)

pub sure_sink : (c : ConId) (t : TreeValue) → IsSound t → sink_refusal c t ≡ None → Sure t (sink_tree c t)
sure_sink c t s fits =
    let both = none_of_two (window_refusal c t) (sunk_refusal c (workspace_of t c) t) fits in
    sure_sunk c (workspace_of t c) t refl s (window_is c t both.0).1 both.1

-- ---- the scratchpad

pub sure_hidden : (c : ConId) (t : TreeValue) → IsSound t → to_scratchpad_refusal c t ≡ None → Sure t (to_scratchpad_tree c t)
sure_hidden c t s fits =
    let both = none_of_two (window_refusal c t) (full_error (passed_by_move c (Scratchpad (floating_rect c t)) t.nodes)) fits in
    let is = window_is c t both.0 in
    let away : TreeValue = moved c (Scratchpad (floating_rect c t)) t in
    let first : Sure t (moved c (Scratchpad (floating_rect c t)) t) =
    sure_moved c (Scratchpad (floating_rect c t)) t s (may_move c (Scratchpad (floating_rect c t)) t (hide_goal c (floating_rect c t) t s (window_con c t is.1) is.0)) both.1 in
    sure_trans t away (flag_set true c away) first (sure_flag_set true c away first.sound)

sure_put_away : (w c : ConId) (t : TreeValue) → IsSound t → is_of_space kinds.Flagged w t c ≡ true → put_away_refusal c t ≡ None → Sure t (put_away c t)
sure_put_away w c t s on fits =
    let is = flagged_is w c t on in
    sure_moved c (Scratchpad (rect_of c t)) t s (may_move c (Scratchpad (rect_of c t)) t (hide_goal c (rect_of c t) t s is.0 is.1)) fits

sure_brought : (c : ConId) (t : TreeValue) → IsSound t → kind_of con_kind c t.nodes ≢ None → brought_refusal c t ≡ None → Sure t (brought c t)
sure_brought c t s ok fits =
    let there : TreeValue = moved c (coming_place c t) t in
    let first : Sure t (moved c (coming_place c t) t) = sure_moved c (coming_place c t) t s (may_move c (coming_place c t) t (coming_goal c (coming_place c t) t refl s ok)) fits in
    sure_trans t there (with_raised c there) first (sure_raised c there first.sound)

sure_first : (c : Option ConId) (t : TreeValue) → first_hidden t ≡ c → IsSound t → first_brought_refusal c t ≡ None → Sure t (first_brought c t)
sure_first None t e s fits = sure_refl t s
sure_first (Some c) t e s fits = sure_brought c t s (first_is t c s e) fits

sure_latest : (c : Option ConId) (t : TreeValue) → IsSound t → latest_or_first_refusal c t ≡ None → Sure t (latest_or_first c t)
sure_latest None t s fits = sure_first (first_hidden t) t refl s fits
sure_latest (Some c) t s fits = sure_raised c t s

sure_next : (t : TreeValue) → IsSound t → show_next_refusal t ≡ None → Sure t (show_next_tree t)
sure_next t s fits = step (is_of_space kinds.Flagged (shown t) t (focused t)) refl fits
  where
    step : (b : Bool) → is_of_space kinds.Flagged (shown t) t (focused t) ≡ b → cond b (put_away_refusal (focused t) t) (latest_or_first_refusal (latest kinds.Flagged (Some (shown t)) t) t) ≡ None
        → Sure t (cond b (put_away (focused t) t) (latest_or_first (latest kinds.Flagged (Some (shown t)) t) t))
    step true e k = sure_put_away (shown t) (focused t) t s e k
    step false e k = sure_latest (latest kinds.Flagged (Some (shown t)) t) t s k

sure_this : (c : ConId) (t : TreeValue) → IsSubject t c → show_this_refusal c t ≡ None → Sure t (cond (is_hidden t c) (brought c t) (put_away c t))
sure_this c t sub fits = step (is_hidden t c) (is_of_space kinds.Flagged (shown t) t c) refl refl fits
  where
    step : (b d : Bool) → is_hidden t c ≡ b → is_of_space kinds.Flagged (shown t) t c ≡ d → cond b (brought_refusal c t) (cond d (put_away_refusal c t) (Some (NoTarget texts.NoContainer))) ≡ None → Sure t (cond b (brought c t) (put_away c t))
    step true d e f k = sure_brought c t sub.sound (hidden_is c t sub e) k
    step false true e f k = sure_put_away (shown t) c t sub.sound f k
    step false false e f k = cc

pub sure_scratchpad : (c : Option ConId) (t : TreeValue) → ((x : ConId) → c ≡ Some x → IsSubject t x) → IsSound t → show_scratchpad_refusal c t ≡ None → Sure t (show_scratchpad_tree c t)
sure_scratchpad None t sub s fits = sure_next t s fits
sure_scratchpad (Some c) t sub s fits = sure_this c t (sub c refl) fits
