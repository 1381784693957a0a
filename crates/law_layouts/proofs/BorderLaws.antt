-- `border toggle` three times, by what it does to the state.
use Rattle.std.proofs.Common.{◌≡◌, Option, None, Some, refl, ap, sym, ◌∙◌}
use Rattle.std.specs.Option.{option_map}
use Rattle.law_layouts.proofs.StateChanges.{restated_is, state_alike, state_same, state_twice, with_state}
use Rattle.law_layouts.specs.Borders.{BorderTogglesBack, BorderTogglesRound, usual}
use Rattle.wm_base.specs.declared.ids.ConId.{ConId}
use Rattle.wm_base.specs.declared.plan.Border.{Border}
use Rattle.wm_base.specs.declared.plan.Border.TheVariants.{Normal, Pixel, Bare}
use Rattle.wm_floats.specs.Windows.{restated, state_of}
use Rattle.wm_forest.specs.declared.part.ConState.{ConState}
use Rattle.wm_sizes.specs.Borders.{cycle_border_tree, next_border, turned}
use Rattle.wm_tree.specs.TreeValue.{TreeValue}

cycle_is : (c : ConId) (t : TreeValue) → cycle_border_tree c t ≡ with_state (λ s. record s { border = next_border s.border }) c t
cycle_is c t = by (state_of c t) refl
  where
    by : (o : Option ConState) → state_of c t ≡ o → turned c o t ≡ with_state (λ s. record s { border = next_border s.border }) c t
    by None e = ap (λ z. restated c (option_map (λ (s : ConState). record s { border = next_border s.border }) z) t) (sym e) ∙ restated_is (λ s. record s { border = next_border s.border }) c t
    by (Some s) e = restated_is (λ z. record z { border = next_border s.border }) c t ∙ state_alike (λ z. record z { border = next_border s.border }) (λ z. record z { border = next_border z.border }) c s t e refl

thrice_is : (c : ConId) (t : TreeValue) → cycle_border_tree c (cycle_border_tree c (cycle_border_tree c t)) ≡ with_state (λ s. record s { border = next_border (next_border (next_border s.border)) }) c t
thrice_is c t =
    let once = cycle_is c t in
    let twice : cycle_border_tree c (cycle_border_tree c t) ≡ with_state (λ s. record s { border = next_border (next_border s.border) }) c t =
    ap (cycle_border_tree c) once ∙ (cycle_is c (with_state (λ s. record s { border = next_border s.border }) c t) ∙ state_twice (λ s. record s { border = next_border s.border }) (λ s. record s { border = next_border s.border }) c t) in
    ap (cycle_border_tree c) twice ∙ (cycle_is c (with_state (λ s. record s { border = next_border (next_border s.border) }) c t) ∙ state_twice (λ s. record s { border = next_border s.border }) (λ s. record s { border = next_border (next_border s.border) }) c t)

round_usual : (b : Border) → next_border (next_border (next_border b)) ≡ usual b
round_usual (Normal n) = refl
round_usual (Pixel n) = refl
round_usual Bare = refl

pub border_toggles_round : BorderTogglesRound
border_toggles_round c s t e =
    thrice_is c t ∙ (state_alike (λ z. record z { border = next_border (next_border (next_border z.border)) }) (λ z. record z { border = usual s.border }) c s t e (ap (λ b. record s { border = b }) (round_usual s.border))
    ∙ sym (restated_is (λ z. record z { border = usual s.border }) c t))

pub border_toggles_back : BorderTogglesBack
border_toggles_back c s t e h =
    thrice_is c t ∙ (state_alike (λ z. record z { border = next_border (next_border (next_border z.border)) }) (λ z. z) c s t e (ap (λ b. record s { border = b }) (round_usual s.border ∙ sym h)) ∙ state_same c t)
