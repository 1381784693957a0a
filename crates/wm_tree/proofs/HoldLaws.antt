-- The parent of a node holds it.
use Rattle.std.proofs.Common.{◌≡◌, ◌≤◌, Bool, true, false, cond, ◌||◌, ◌⊎◌, inl, inr, ⊎_elim, Option, None, Some, refl, sym, ◌∙◌, subst, arith}
use Rattle.std.specs.Prelude.{IfSome, option_and_then}
use Rattle.wm_base.specs.declared.ids.ConId.{ConId}
use Rattle.wm_forest.specs.declared.part.Part.{Part}
use Rattle.wm_forest.specs.declared.part.NodeKind.{NodeKind}
use Rattle.wm_forest.specs.declared.part.NodeKind.TheVariants.{Root, Output, Space, Con}
use Rattle.wm_forest.specs.declared.spot.Spot.{Spot}
use Rattle.wm_forest.specs.Forest.{Forest, end, con}
use Rattle.wm_forest.specs.Holding.{is_held}
use Rattle.wm_forest.specs.Look.{has, in_row, same}
use Rattle.wm_tree.specs.Sound.{IsSound}
use Rattle.wm_forest.specs.SoundRow.{tally}
use Rattle.wm_forest.specs.Spot.{holder_by, spot_below, spot_in, spot_of, top}
use Rattle.wm_tree.specs.TreeValue.{TreeValue, parent, spot}
use Rattle.wm_forest.proofs.OnceLemmas.{in_floats, in_kids, in_rest, only_floats, only_kids, only_rest}
use Rattle.wm_forest.proofs.RecencyLemmas.{same_self}

-- the holder, where there is one, is in the forest and holds c
abbrev HeldAt : ConId → Option ConId → Forest → Type 0
HeldAt c None f = Unit {0}
HeldAt c (Some p) f = (has p f ≡ true) × (is_held c p f ≡ true)

-- c stands in the row itself, and what holds the row holds it; or it is held within the row
abbrev Stands : ConId → Spot → Option Spot → Forest → Type 0
Stands c s None f = Unit {0}
Stands c s (Some sp) f = ((in_row c f ≡ true) × (sp.holder ≡ s.holder)) ⊎ HeldAt c sp.holder f

or_left : (a b : Bool) → a ≡ true → (a || b) ≡ true
or_left true b h = refl
or_left false b h = cc

or_right : (a b : Bool) → b ≡ true → (a || b) ≡ true
or_right true b h = refl
or_right false b h = h

module _ (c : ConId) (part : Part) (kids floats rest : Forest) (once : (i : ConId) → tally i (con part kids floats rest) ≤ 1) where
  from_kids : (h : Option ConId) → HeldAt c h kids → HeldAt c h (con part kids floats rest)
  from_kids None p = tt
  from_kids (Some i) p = (in_kids i part kids floats rest p.0, rw (only_kids i part kids floats rest (once i) p.0) p.1)

  from_floats : (h : Option ConId) → HeldAt c h floats → HeldAt c h (con part kids floats rest)
  from_floats None p = tt
  from_floats (Some i) p = (in_floats i part kids floats rest p.0, rw (only_floats i part kids floats rest (once i) p.0) p.1)

  from_rest : (h : Option ConId) → HeldAt c h rest → HeldAt c h (con part kids floats rest)
  from_rest None p = tt
  from_rest (Some i) p = (in_rest i part kids floats rest p.0, rw (only_rest i part kids floats rest (once i) p.0) p.1)

  by_first : in_row c kids ≡ true ⊎ in_row c floats ≡ true → HeldAt c (Some part.id) (con part kids floats rest)
  by_first h = rw (same_self part.id part.id refl) (refl, ⊎_elim (λ k. or_left (in_row c kids) (in_row c floats) k) (λ f. or_right (in_row c kids) (in_row c floats) f) h)

  by_kids : (kind : NodeKind) → in_row c kids ≡ true → HeldAt c (holder_by true part.id kind) (con part kids floats rest)
  by_kids (Root d) h = by_first (inl h)
  by_kids (Output o) h = by_first (inl h)
  by_kids (Space w) h = by_first (inl h)
  by_kids (Con d) h = by_first (inl h)

  by_floats : (kind : NodeKind) → in_row c floats ≡ true → HeldAt c (holder_by false part.id kind) (con part kids floats rest)
  by_floats (Root d) h = tt
  by_floats (Output o) h = by_first (inr h)
  by_floats (Space w) h = by_first (inr h)
  by_floats (Con d) h = by_first (inr h)

  up_kids : (s : Spot) (o : Option Spot) → Stands c (spot_below true s part) o kids → Stands c s o (con part kids floats rest)
  up_kids s None h = tt
  up_kids s (Some sp) h =
      inr (⊎_elim (λ p. subst (λ z. HeldAt c z (con part kids floats rest)) (sym p.1) (by_kids part.kind p.0)) (λ p. from_kids sp.holder p) h)

  up_floats : (s : Spot) (o : Option Spot) → Stands c (spot_below false s part) o floats → Stands c s o (con part kids floats rest)
  up_floats s None h = tt
  up_floats s (Some sp) h =
      inr (⊎_elim (λ p. subst (λ z. HeldAt c z (con part kids floats rest)) (sym p.1) (by_floats part.kind p.0)) (λ p. from_floats sp.holder p) h)

  up_rest : (s : Spot) (o : Option Spot) → Stands c s o rest → Stands c s o (con part kids floats rest)
  up_rest s None h = tt
  up_rest s (Some sp) h = ⊎_elim (λ p. inl (or_right (same part.id c) (in_row c rest) p.0, p.1)) (λ p. inr (from_rest sp.holder p)) h

  step : (s : Spot) (a k l : Bool) → same part.id c ≡ a → (x y z : Option Spot) → Stands c (spot_below true s part) x kids → Stands c (spot_below false s part) y floats → Stands c s z rest
      → Stands c s (cond a (Some (spot_of s part)) (cond k x (cond l y z))) (con part kids floats rest)
  step s true k l e x y z p q r = inl (or_left (same part.id c) (in_row c rest) e, refl)
  step s false true l e x y z p q r = up_kids s x p
  step s false false true e x y z p q r = up_floats s y q
  step s false false false e x y z p q r = up_rest s z r

stands : (c : ConId) (s : Spot) (f : Forest) → ((i : ConId) → tally i f ≤ 1) → Stands c s (spot_in s c f) f
stands c s end once = tt
stands c s (con part kids floats rest) once =
    step c part kids floats rest once s (same part.id c) (has c kids) (has c floats) refl (spot_in (spot_below true s part) c kids) (spot_in (spot_below false s part) c floats) (spot_in s c rest)
    (stands c (spot_below true s part) kids (λ i. omega (arith, once i))) (stands c (spot_below false s part) floats (λ i. omega (arith, once i))) (stands c s rest (λ i. omega (arith, once i)))

holds_by : (c : ConId) (f : Forest) (o : Option Spot) → Stands c top o f → (p : ConId) → option_and_then (λ (s : Spot). s.holder) o ≡ Some p → is_held c p f ≡ true
holds_by c f None h p e = cc
holds_by c f (Some sp) h p e =
    let here : sp.holder ≡ Some p = e in
    ⊎_elim (λ q. let bad : None ≡ Some p = sym q.1 ∙ here in cc) (λ q. let r : HeldAt c (Some p) f = subst (λ z. HeldAt c z f) here q in r.1) h

-- the parent of a node holds it
pub parent_holds : (t : TreeValue) (c : ConId) (o : Option ConId) → o ≡ parent t c → IsSound t → IfSome o (λ p. is_held c p t.nodes ≡ true)
parent_holds t c None e s = tt
parent_holds t c (Some p) e s = holds_by c t.nodes (spot t c) (stands c top t.nodes s.once) p (sym e)
