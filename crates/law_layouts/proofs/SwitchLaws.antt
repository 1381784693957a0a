-- `sticky toggle` and `fullscreen toggle` twice, by what they do to the state.
use Rattle.std.proofs.Common.{◌≡◌, Bool, true, false, not, Option, None, Some, refl, ap, sym, ◌∙◌}
use Rattle.std.specs.Prelude.{is_none}
use Rattle.law_layouts.proofs.StateChanges.{flipped, not_not, state_all, state_same, state_twice, with_state, workspace_kept}
use Rattle.law_layouts.specs.Switches.{FullTogglesBack, StickyTogglesBack, full_toggled, is_fullscreen, is_sticky, sticky_toggled}
use Rattle.wm_base.specs.declared.ids.ConId.{ConId}
use Rattle.wm_floats.proofs.FullLemmas.{alone_kept, none_left}
use Rattle.wm_floats.specs.Fullscreen.{fills_alone, full_in, fullscreen_tree, others_unfull}
use Rattle.wm_floats.specs.Windows.{full_set, state_of}
use Rattle.wm_tree.specs.TreeValue.{TreeValue, workspace_of}

-- ---- `sticky toggle`

sticky_is : (c : ConId) (t : TreeValue) → sticky_toggled c t ≡ with_state (λ s. record s { sticky = not s.sticky }) c t
sticky_is c t = flipped is_sticky (λ b s. record s { sticky = b }) c t

pub sticky_toggles_back : StickyTogglesBack
sticky_toggles_back c t =
    ap (sticky_toggled c) (sticky_is c t) ∙ (sticky_is c (with_state (λ s. record s { sticky = not s.sticky }) c t)
    ∙ (state_twice (λ s. record s { sticky = not s.sticky }) (λ s. record s { sticky = not s.sticky }) c t
    ∙ (state_all (λ s. record s { sticky = not (not s.sticky) }) (λ s. s) c t (λ s. ap (λ b. record s { sticky = b }) (not_not s.sticky)) ∙ state_same c t)))

-- ---- `fullscreen toggle`

unfull_none : (c : ConId) (w : Option ConId) (t : TreeValue) → fills_alone c w t ≡ true → others_unfull c w t ≡ t
unfull_none c None t h = refl
unfull_none c (Some w) t h = none_left w c t (by (full_in w c t.nodes) h)
  where
    by : (o : Option ConId) → is_none o ≡ true → o ≡ None
    by None h = refl
    by (Some i) h = cc

-- where it fills its output alone, only its own state changes
alone_set : (c : ConId) (b : Bool) (t : TreeValue) → fills_alone c (workspace_of t c) t ≡ true → fullscreen_tree c b t ≡ full_set b c t
alone_set c true t h = ap (full_set true c) (unfull_none c (workspace_of t c) t h)
alone_set c false t h = refl

full_is : (c : ConId) (t : TreeValue) → fills_alone c (workspace_of t c) t ≡ true → full_toggled c t ≡ with_state (λ s. record s { fullscreen = not s.fullscreen }) c t
full_is c t h = alone_set c (not (is_fullscreen (state_of c t))) t h ∙ flipped is_fullscreen (λ b s. record s { fullscreen = b }) c t

still_alone : (c : ConId) (t : TreeValue) → fills_alone c (workspace_of t c) t ≡ true → fills_alone c (workspace_of (with_state (λ s. record s { fullscreen = not s.fullscreen }) c t) c) (with_state (λ s. record s { fullscreen = not s.fullscreen }) c t) ≡ true
still_alone c t h =
    ap (λ w. fills_alone c w (with_state (λ s. record s { fullscreen = not s.fullscreen }) c t)) (workspace_kept (λ s. record s { fullscreen = not s.fullscreen }) c c t)
    ∙ alone_kept c (workspace_of t c) (not (is_fullscreen (state_of c t))) t (with_state (λ s. record s { fullscreen = not s.fullscreen }) c t) (sym (flipped is_fullscreen (λ b s. record s { fullscreen = b }) c t)) h

pub full_toggles_back : FullTogglesBack
full_toggles_back c t h =
    ap (full_toggled c) (full_is c t h) ∙ (full_is c (with_state (λ s. record s { fullscreen = not s.fullscreen }) c t) (still_alone c t h)
    ∙ (state_twice (λ s. record s { fullscreen = not s.fullscreen }) (λ s. record s { fullscreen = not s.fullscreen }) c t
    ∙ (state_all (λ s. record s { fullscreen = not (not s.fullscreen) }) (λ s. s) c t (λ s. ap (λ b. record s { fullscreen = b }) (not_not s.fullscreen)) ∙ state_same c t)))
