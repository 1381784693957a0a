-- Windows that hide in the scratchpad or are tiled again leave each workspace at most one fullscreen container.
use Rattle.std.proofs.Common.{◌≡◌, ◌≢◌, Bool, true, false, cond, Option, None, Some, refl}
use Rattle.std.specs.Option.{option_or}
use Rattle.wm_base.specs.declared.errors.Refusal.{Refusal}
use Rattle.wm_base.specs.declared.ids.ConId.{ConId}
use Rattle.wm_floats.proofs.FloatLemmas.{flagged_is, hide_goal, window_con, window_is}
use Rattle.wm_floats.proofs.LeafLemmas.{tiling_goal}
use Rattle.wm_floats.specs.declared.kinds.Kind.TheVariants as kinds
use Rattle.wm_floats.specs.Floating.{floating_rect, sink_refusal, sink_tree, sunk, sunk_refusal, tiling_place}
use Rattle.wm_floats.specs.Kinds.{is_of_space}
use Rattle.wm_floats.specs.Scratchpad.{put_away, to_scratchpad_refusal, to_scratchpad_tree}
use Rattle.wm_floats.specs.Windows.{flag_set, natural_of, window_refusal}
use Rattle.law_fullscreen.proofs.SingleLemmas.{Single, single_moved, single_reset}
use Rattle.wm_shared.specs.Refusing.{full_error}
use Rattle.wm_shared.specs.Rects.{rect_of}
use Rattle.wm_forest.specs.declared.part.ConState.{ConState}
use Rattle.wm_forest.specs.declared.place.Place.TheVariants.{Scratchpad}
use Rattle.wm_tree.specs.Move.{moved, passed_by_move}
use Rattle.wm_tree.specs.Sound.{IsSound}
use Rattle.wm_tree.specs.TreeValue.{TreeValue, is_tiled_con, workspace_of}

pub single_flag_set : (on : Bool) (c : ConId) (t : TreeValue) → Single t → Single (flag_set on c t)
single_flag_set on c t = single_reset c (λ (s : ConState). record s { flagged = on }) t (λ s. refl)

-- neither of two refusals
neither : (a b : Option Refusal) → option_or a b ≡ None → (a ≡ None) × (b ≡ None)
neither None b h = (refl, h)
neither (Some r) b h = cc

pub single_hidden : (c : ConId) (t : TreeValue) → IsSound t → to_scratchpad_refusal c t ≡ None → Single t → Single (to_scratchpad_tree c t)
single_hidden c t s fits p =
    let both = neither (window_refusal c t) (full_error (passed_by_move c (Scratchpad (floating_rect c t)) t.nodes)) fits in
    let is = window_is c t both.0 in
    single_flag_set true c (moved c (Scratchpad (floating_rect c t)) t) (single_moved c (Scratchpad (floating_rect c t)) t s (hide_goal c (floating_rect c t) t s (window_con c t is.1) is.0) p)

pub single_put_away : (w c : ConId) (t : TreeValue) → IsSound t → is_of_space kinds.Flagged w t c ≡ true → Single t → Single (put_away c t)
single_put_away w c t s on p = let is = flagged_is w c t on in single_moved c (Scratchpad (rect_of c t)) t s (hide_goal c (rect_of c t) t s is.0 is.1) p

single_sunk : (c : ConId) (w : Option ConId) (t : TreeValue) → workspace_of t c ≡ w → IsSound t → natural_of c t ≢ None → Single t → Single (sunk c w t)
single_sunk c None t e s ok p = p
single_sunk c (Some w) t e s ok p = step (is_tiled_con t c) refl
  where
    step : (b : Bool) → is_tiled_con t c ≡ b → Single (cond b t (flag_set false c (moved c (tiling_place w t) t)))
    step true d = p
    step false d = single_flag_set false c (moved c (tiling_place w t) t) (single_moved c (tiling_place w t) t s (tiling_goal c w t s ok e d) p)

pub single_sinking : (c : ConId) (t : TreeValue) → IsSound t → sink_refusal c t ≡ None → Single t → Single (sink_tree c t)
single_sinking c t s fits =
    let both = neither (window_refusal c t) (sunk_refusal c (workspace_of t c) t) fits in
    single_sunk c (workspace_of t c) t refl s (window_is c t both.0).1
