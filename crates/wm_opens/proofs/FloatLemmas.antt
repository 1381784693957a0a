-- The commands on floating windows make no window.
use Rattle.std.proofs.Common.{◌≡◌, ℤ, Bool, true, false, cond, Option, None, Some, refl, arith}
use Rattle.std.specs.Option.{option_map}
use Rattle.wm_base.specs.declared.ids.ConId.{ConId}
use Rattle.wm_floats.specs.declared.kinds.Kind.TheVariants as kinds
use Rattle.wm_floats.specs.Floating.{floated, floating_rect, sunk, tiling_place}
use Rattle.wm_floats.specs.Fullscreen.{fullscreen_tree, others_unfull, unfull_but}
use Rattle.wm_floats.specs.Kinds.{is_of_space, latest, raised_some}
use Rattle.wm_floats.specs.Placing.{place_at_tree}
use Rattle.wm_floats.specs.Scratchpad.{brought, coming_place, first_brought, first_hidden, latest_or_first, put_away, show_next_tree, show_scratchpad_tree, to_scratchpad_tree}
use Rattle.wm_floats.specs.Windows.{flag_set, full_set, restated, state_of, sticky_set}
use Rattle.wm_opens.proofs.KeptLemmas.{Kept, kept_count, kept_edited, kept_moved, kept_raised, kept_refl, kept_trans}
use Rattle.wm_shared.specs.Subject.{is_hidden}
use Rattle.wm_shared.specs.Rects.{rect_of}
use Rattle.wm_forest.proofs.CountLemmas.{count-same}
use Rattle.wm_tree.proofs.RaiseLemmas.{count-unfull}
use Rattle.wm_forest.specs.declared.kind.KindEdit.TheVariants as edits
use Rattle.wm_forest.specs.declared.part.ConState.{ConState}
use Rattle.wm_forest.specs.declared.place.Place.TheVariants.{Float, Scratchpad}
use Rattle.wm_forest.specs.Change.{at}
use Rattle.wm_forest.specs.Counts.{count}
use Rattle.wm_tree.specs.Move.{moved}
use Rattle.wm_tree.specs.TreeValue.{TreeValue, focused, is_tiled_con, shown, workspace_of}
use Rattle.wm_tree.specs.Words.{with_raised}

-- ---- states

pub kept_restated : (c : ConId) (s : Option ConState) (t : TreeValue) → Kept t (restated c s t)
kept_restated c None t = kept_refl t
kept_restated c (Some s) t = kept_edited c (edits.State s) t refl

pub kept_stuck : (on : Bool) (c : ConId) (t : TreeValue) → Kept t (sticky_set on c t)
kept_stuck on c t = kept_restated c (option_map (λ (s : ConState). record s { sticky = on }) (state_of c t)) t

kept_full_set : (on : Bool) (c : ConId) (t : TreeValue) → Kept t (full_set on c t)
kept_full_set on c t = kept_restated c (option_map (λ (s : ConState). record s { fullscreen = on }) (state_of c t)) t

kept_flag_set : (on : Bool) (c : ConId) (t : TreeValue) → Kept t (flag_set on c t)
kept_flag_set on c t = kept_restated c (option_map (λ (s : ConState). record s { flagged = on }) (state_of c t)) t

pub kept_others : (c : ConId) (w : Option ConId) (t : TreeValue) → Kept t (others_unfull c w t)
kept_others c None t = kept_refl t
kept_others c (Some w) t =
    kept_count t (others_unfull c (Some w) t) refl
    (λ m k. let e : count m (at w unfull_but c t.nodes) ≡ count m t.nodes =
    count-same m w unfull_but c (λ part kids floats rest. omega (arith, count-unfull c m k.unfulled kids, count-unfull c m k.unfulled floats)) t.nodes
    in omega (arith, e))

pub kept_fullscreen : (c : ConId) (on : Bool) (t : TreeValue) → Kept t (fullscreen_tree c on t)
kept_fullscreen c true t =
    let alone : TreeValue = others_unfull c (workspace_of t c) t in
    kept_trans t alone (full_set true c alone) (kept_others c (workspace_of t c) t) (kept_full_set true c alone)
kept_fullscreen c false t = kept_full_set false c t

-- ---- places

pub kept_placed : (c : ConId) (x y : ℤ) (t : TreeValue) → Kept t (place_at_tree c x y t)
kept_placed c x y t = kept_restated c (option_map (λ (s : ConState). record s { rect = Some (record { x = x; y = y; w = (rect_of c t).w; h = (rect_of c t).h }) }) (state_of c t)) t

pub kept_kind : (c : Option ConId) (t : TreeValue) → Kept t (raised_some c t)
kept_kind None t = kept_refl t
kept_kind (Some c) t = kept_raised c t

pub kept_floated : (c : ConId) (w : Option ConId) (t : TreeValue) → Kept t (floated c w t)
kept_floated c None t = kept_refl t
kept_floated c (Some w) t = step (is_tiled_con t c)
  where
    step : (b : Bool) → Kept t (cond b (moved c (Float w (floating_rect c t)) t) t)
    step true = kept_moved c (Float w (floating_rect c t)) t
    step false = kept_refl t

pub kept_sunk : (c : ConId) (w : Option ConId) (t : TreeValue) → Kept t (sunk c w t)
kept_sunk c None t = kept_refl t
kept_sunk c (Some w) t = step (is_tiled_con t c)
  where
    tiled : TreeValue
    tiled = moved c (tiling_place w t) t

    step : (b : Bool) → Kept t (cond b t (flag_set false c tiled))
    step true = kept_refl t
    step false = kept_trans t tiled (flag_set false c tiled) (kept_moved c (tiling_place w t) t) (kept_flag_set false c tiled)

-- ---- the scratchpad

pub kept_hidden : (c : ConId) (t : TreeValue) → Kept t (to_scratchpad_tree c t)
kept_hidden c t =
    let away : TreeValue = moved c (Scratchpad (floating_rect c t)) t in
    kept_trans t away (flag_set true c away) (kept_moved c (Scratchpad (floating_rect c t)) t) (kept_flag_set true c away)

kept_put_away : (c : ConId) (t : TreeValue) → Kept t (put_away c t)
kept_put_away c t = kept_moved c (Scratchpad (rect_of c t)) t

kept_brought : (c : ConId) (t : TreeValue) → Kept t (brought c t)
kept_brought c t =
    let there : TreeValue = moved c (coming_place c t) t in
    kept_trans t there (with_raised c there) (kept_moved c (coming_place c t) t) (kept_raised c there)

kept_first : (c : Option ConId) (t : TreeValue) → Kept t (first_brought c t)
kept_first None t = kept_refl t
kept_first (Some c) t = kept_brought c t

kept_latest : (c : Option ConId) (t : TreeValue) → Kept t (latest_or_first c t)
kept_latest None t = kept_first (first_hidden t) t
kept_latest (Some c) t = kept_raised c t

kept_next : (t : TreeValue) → Kept t (show_next_tree t)
kept_next t = step (is_of_space kinds.Flagged (shown t) t (focused t))
  where
    step : (b : Bool) → Kept t (cond b (put_away (focused t) t) (latest_or_first (latest kinds.Flagged (Some (shown t)) t) t))
    step true = kept_put_away (focused t) t
    step false = kept_latest (latest kinds.Flagged (Some (shown t)) t) t

pub kept_scratchpad : (c : Option ConId) (t : TreeValue) → Kept t (show_scratchpad_tree c t)
kept_scratchpad None t = kept_next t
kept_scratchpad (Some c) t = step (is_hidden t c)
  where
    step : (b : Bool) → Kept t (cond b (brought c t) (put_away c t))
    step true = kept_brought c t
    step false = kept_put_away c t
