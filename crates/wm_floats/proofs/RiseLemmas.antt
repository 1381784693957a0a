-- The commands on floating windows let ids rise.
use Rattle.std.proofs.Common.{ℕ, ℤ, Bool, true, false, cond, Option, None, Some, refl}
use Rattle.std.specs.Option.{option_map}
use Rattle.wm_base.specs.declared.geometry.Dir.{Dir}
use Rattle.wm_base.specs.declared.ids.ConId.{ConId}
use Rattle.wm_floats.specs.declared.kinds.Kind.TheVariants as kinds
use Rattle.wm_floats.specs.Floating.{floated, floating_rect, sunk, tiling_place}
use Rattle.wm_floats.specs.Fullscreen.{fullscreen_tree, others_unfull}
use Rattle.wm_floats.specs.Kinds.{is_of_space, latest, raised_some}
use Rattle.wm_floats.specs.Placing.{place_at_tree}
use Rattle.wm_floats.specs.Rounds.{focused_some, round_to, focus_round_tree, shift_tree, shifted_x, shifted_y}
use Rattle.wm_floats.specs.Scratchpad.{brought, coming_place, first_brought, first_hidden, latest_or_first, put_away, show_next_tree, show_scratchpad_tree, to_scratchpad_tree}
use Rattle.wm_floats.specs.Windows.{flag_set, full_set, restated, state_of, sticky_set}
use Rattle.wm_shared.proofs.RiseLemmas.{ids_focusing, ids_same}
use Rattle.wm_shared.specs.Subject.{is_hidden}
use Rattle.wm_shared.specs.Rects.{rect_of}
use Rattle.wm_tree.proofs.IdLemmas.{ids_edited, ids_moved, ids_raised, ids_refl, ids_trans}
use Rattle.wm_forest.specs.declared.kind.KindEdit.TheVariants as edits
use Rattle.wm_forest.specs.declared.part.ConState.{ConState}
use Rattle.wm_forest.specs.declared.place.Place.TheVariants.{Float, Scratchpad}
use Rattle.wm_tree.specs.Ids.{IdsRise}
use Rattle.wm_tree.specs.Move.{moved}
use Rattle.wm_tree.specs.TreeValue.{TreeValue, focused, is_tiled_con, shown, workspace_of}
use Rattle.wm_tree.specs.Words.{with_raised}

-- ---- states

ids_restated : (c : ConId) (s : Option ConState) (t : TreeValue) → IdsRise t (restated c s t)
ids_restated c None t = ids_refl t
ids_restated c (Some s) t = ids_edited c (edits.State s) t

pub ids_stuck : (on : Bool) (c : ConId) (t : TreeValue) → IdsRise t (sticky_set on c t)
ids_stuck on c t = ids_restated c (option_map (λ (s : ConState). record s { sticky = on }) (state_of c t)) t

ids_full_set : (on : Bool) (c : ConId) (t : TreeValue) → IdsRise t (full_set on c t)
ids_full_set on c t = ids_restated c (option_map (λ (s : ConState). record s { fullscreen = on }) (state_of c t)) t

ids_flag_set : (on : Bool) (c : ConId) (t : TreeValue) → IdsRise t (flag_set on c t)
ids_flag_set on c t = ids_restated c (option_map (λ (s : ConState). record s { flagged = on }) (state_of c t)) t

ids_others : (c : ConId) (w : Option ConId) (t : TreeValue) → IdsRise t (others_unfull c w t)
ids_others c None t = ids_refl t
ids_others c (Some w) t = ids_same t (others_unfull c (Some w) t) (record { next = refl; recency = refl })

pub ids_fullscreen : (c : ConId) (on : Bool) (t : TreeValue) → IdsRise t (fullscreen_tree c on t)
ids_fullscreen c true t =
    let alone : TreeValue = others_unfull c (workspace_of t c) t in
    ids_trans t alone (full_set true c alone) (ids_others c (workspace_of t c) t) (ids_full_set true c alone)
ids_fullscreen c false t = ids_full_set false c t

-- ---- places

pub ids_placed : (c : ConId) (x y : ℤ) (t : TreeValue) → IdsRise t (place_at_tree c x y t)
ids_placed c x y t = ids_restated c (option_map (λ (s : ConState). record s { rect = Some (record { x = x; y = y; w = (rect_of c t).w; h = (rect_of c t).h }) }) (state_of c t)) t

pub ids_shifted : (c : ConId) (d : Dir) (px : ℕ) (t : TreeValue) → IdsRise t (shift_tree c d px t)
ids_shifted c d px t = ids_placed c (shifted_x d px (rect_of c t)) (shifted_y d px (rect_of c t)) t

ids_focused : (c : Option ConId) (t : TreeValue) → IdsRise t (focused_some c t)
ids_focused None t = ids_refl t
ids_focused (Some c) t = ids_focusing c t

pub ids_round : (c : ConId) (d : Dir) (t : TreeValue) → IdsRise t (focus_round_tree c d t)
ids_round c d t = ids_focused (round_to d c t) t

pub ids_kind : (c : Option ConId) (t : TreeValue) → IdsRise t (raised_some c t)
ids_kind None t = ids_refl t
ids_kind (Some c) t = ids_raised c t

pub ids_floated : (c : ConId) (w : Option ConId) (t : TreeValue) → IdsRise t (floated c w t)
ids_floated c None t = ids_refl t
ids_floated c (Some w) t = by_test (is_tiled_con t c)
  where
    by_test : (b : Bool) → IdsRise t (cond b (moved c (Float w (floating_rect c t)) t) t)
    by_test true = ids_moved c (Float w (floating_rect c t)) t
    by_test false = ids_refl t

pub ids_sunk : (c : ConId) (w : Option ConId) (t : TreeValue) → IdsRise t (sunk c w t)
ids_sunk c None t = ids_refl t
ids_sunk c (Some w) t = by_test (is_tiled_con t c)
  where
    tiled : TreeValue
    tiled = moved c (tiling_place w t) t

    by_test : (b : Bool) → IdsRise t (cond b t (flag_set false c tiled))
    by_test true = ids_refl t
    by_test false = ids_trans t tiled (flag_set false c tiled) (ids_moved c (tiling_place w t) t) (ids_flag_set false c tiled)

-- ---- the scratchpad

pub ids_hidden : (c : ConId) (t : TreeValue) → IdsRise t (to_scratchpad_tree c t)
ids_hidden c t =
    let away : TreeValue = moved c (Scratchpad (floating_rect c t)) t in
    ids_trans t away (flag_set true c away) (ids_moved c (Scratchpad (floating_rect c t)) t) (ids_flag_set true c away)

ids_put_away : (c : ConId) (t : TreeValue) → IdsRise t (put_away c t)
ids_put_away c t = ids_moved c (Scratchpad (rect_of c t)) t

ids_brought : (c : ConId) (t : TreeValue) → IdsRise t (brought c t)
ids_brought c t =
    let there : TreeValue = moved c (coming_place c t) t in
    ids_trans t there (with_raised c there) (ids_moved c (coming_place c t) t) (ids_raised c there)

ids_first : (c : Option ConId) (t : TreeValue) → IdsRise t (first_brought c t)
ids_first None t = ids_refl t
ids_first (Some c) t = ids_brought c t

ids_latest : (c : Option ConId) (t : TreeValue) → IdsRise t (latest_or_first c t)
ids_latest None t = ids_first (first_hidden t) t
ids_latest (Some c) t = ids_raised c t

ids_next : (t : TreeValue) → IdsRise t (show_next_tree t)
ids_next t = by_test (is_of_space kinds.Flagged (shown t) t (focused t))
  where
    by_test : (b : Bool) → IdsRise t (cond b (put_away (focused t) t) (latest_or_first (latest kinds.Flagged (Some (shown t)) t) t))
    by_test true = ids_put_away (focused t) t
    by_test false = ids_latest (latest kinds.Flagged (Some (shown t)) t) t

pub ids_scratchpad : (c : Option ConId) (t : TreeValue) → IdsRise t (show_scratchpad_tree c t)
ids_scratchpad None t = ids_next t
ids_scratchpad (Some c) t = by_test (is_hidden t c)
  where
    by_test : (b : Bool) → IdsRise t (cond b (brought c t) (put_away c t))
    by_test true = ids_brought c t
    by_test false = ids_put_away c t
