-- Going down a forest in which each id is there once.
use Rattle.std.proofs.Common.{◌≡◌, ◌+◌, ◌≤◌, Bool, true, false, cond, ◌||◌, ◌⊎◌, inl, inr, Option, Some, refl, ap, sym, ◌∙◌, arith}
use Rattle.std.specs.Prelude.{option_and_then}
use Rattle.wm_base.specs.declared.ids.ConId.{ConId}
use Rattle.wm_forest.proofs.CountLemmas.{count-without, counted, there}
use Rattle.wm_forest.proofs.ForestLemmas.{only_absent}
use Rattle.wm_forest.proofs.RecencyLemmas.{same_is, same_self}
use Rattle.wm_forest.specs.declared.part.NodeKind.{NodeKind}
use Rattle.wm_forest.specs.declared.part.NodeKind.TheVariants.{Root, Output, Space, Con}
use Rattle.wm_forest.specs.declared.part.Part.{Part}
use Rattle.wm_forest.specs.declared.spot.Spot.{Spot}
use Rattle.wm_forest.specs.Forest.{Forest, end, con}
use Rattle.wm_forest.specs.Look.{has, only, same}
use Rattle.wm_forest.specs.SoundRow.{one_of, tally}
use Rattle.wm_forest.specs.Spot.{holder_by, spot_below, spot_in, spot_of}

abbrev pub Once : Forest → Type 0
Once f = (i : ConId) → tally i f ≤ 1

-- one that is not counted is not there
pub none : (i : ConId) (f : Forest) → tally i f ≡ 0 → has i f ≡ false
none i f h = by (has i f) refl where
  by : (b : Bool) → has i f ≡ b → has i f ≡ false
  by false e = e
  by true e = absurd (omega (arith, counted i f e, h))

pub has_only : (a b : ConId) (f : Forest) → has a (only b f) ≡ true → has a f ≡ true
has_only a b f h = there a f (omega (arith, count-without (one_of a) b f, counted a (only b f) h))

pub once_only : (b : ConId) (f : Forest) → Once f → Once (only b f)
once_only b f once = λ i. omega (arith, count-without (one_of i) b f, once i)

module _ (part : Part) (kids floats rest : Forest) (once : Once (con part kids floats rest)) where
  not_here : (i : ConId) → 1 ≤ tally i kids + tally i floats + tally i rest → same part.id i ≡ false
  not_here i more = by (same part.id i) refl where
    by : (b : Bool) → same part.id i ≡ b → same part.id i ≡ false
    by false e = e
    by true e = let much : 1 + tally i kids + tally i floats + tally i rest ≤ 1 = rw e at (once i) in absurd (omega (arith, much, more))

  pub once_kids : Once kids
  once_kids = λ i. omega (arith, once i)

  pub once_floats : Once floats
  once_floats = λ i. omega (arith, once i)

  pub once_rest : Once rest
  once_rest = λ i. omega (arith, once i)

  pub in_kids : (i : ConId) → has i kids ≡ true → same part.id i ≡ false
  in_kids i h = not_here i (omega (arith, counted i kids h))

  pub in_floats : (i : ConId) → has i floats ≡ true → (same part.id i ≡ false) × (has i kids ≡ false)
  in_floats i h = (not_here i (omega (arith, counted i floats h)), none i kids (omega (arith, counted i floats h, once i)))

  pub in_rest : (i : ConId) → has i rest ≡ true → (same part.id i ≡ false) × (has i kids ≡ false) × (has i floats ≡ false)
  in_rest i h = (not_here i (omega (arith, counted i rest h)), none i kids (omega (arith, counted i rest h, once i)), none i floats (omega (arith, counted i rest h, once i)))

  -- a node that is the first is not below it or behind it
  pub not_below : (i : ConId) → same part.id i ≡ true → (has i kids ≡ false) × (has i floats ≡ false) × (has i rest ≡ false)
  not_below i e =
      let much : 1 + tally i kids + tally i floats + tally i rest ≤ 1 = rw e at (once i) in
      (none i kids (omega (arith, much)), none i floats (omega (arith, much)), none i rest (omega (arith, much)))

  pub down_kids : (i : ConId) → has i kids ≡ true → only i (con part kids floats rest) ≡ only i kids
  down_kids i h = rw (in_kids i h, h) refl

  pub down_floats : (i : ConId) → has i floats ≡ true → only i (con part kids floats rest) ≡ only i floats
  down_floats i h = let n = in_floats i h in rw (n.0, n.1, h) refl

  pub down_rest : (i : ConId) → has i rest ≡ true → only i (con part kids floats rest) ≡ only i rest
  down_rest i h = let n = in_rest i h in rw (n.0, n.1, n.2) refl

-- ---- a node below another one

-- what is found below a node is what is found in the whole
pub only_below : (a b : ConId) (f : Forest) → Once f → has a (only b f) ≡ true → only a (only b f) ≡ only a f
only_below a b end once h = refl
only_below a b (con part kids floats rest) once h =
    step (same part.id b) (has b kids) (has b floats) (only_below a b kids (once_kids part kids floats rest once)) (only_below a b floats (once_floats part kids floats rest once)) (only_below a b rest (once_rest part kids floats rest once)) h
  where
    here : (s k l : Bool) → (s || k || l || false) ≡ true → cond s (con part kids floats end) (cond k (only a kids) (cond l (only a floats) end)) ≡ cond s (con part kids floats end) (cond k (only a kids) (cond l (only a floats) (only a rest)))
    here true k l h = refl
    here false true l h = refl
    here false false true h = refl
    here false false false h = cc

    step : (s k l : Bool) → (has a (only b kids) ≡ true → only a (only b kids) ≡ only a kids) → (has a (only b floats) ≡ true → only a (only b floats) ≡ only a floats) → (has a (only b rest) ≡ true → only a (only b rest) ≡ only a rest)
        → has a (cond s (con part kids floats end) (cond k (only b kids) (cond l (only b floats) (only b rest)))) ≡ true
        → only a (cond s (con part kids floats end) (cond k (only b kids) (cond l (only b floats) (only b rest)))) ≡ only a (con part kids floats rest)
    step true k l p q r h = here (same part.id a) (has a kids) (has a floats) h
    step false true l p q r h = p h ∙ sym (down_kids part kids floats rest once a (has_only a b kids h))
    step false false true p q r h = q h ∙ sym (down_floats part kids floats rest once a (has_only a b floats h))
    step false false false p q r h = r h ∙ sym (down_rest part kids floats rest once a (has_only a b rest h))

-- what is below a node that is below another one is below that
pub below_both : (c p q : ConId) (f : Forest) → Once f → has p (only q f) ≡ true → has c (only p f) ≡ true → has c (only q f) ≡ true
below_both c p q f once h k = has_only c p (only q f) (ap (has c) (only_below p q f once h) ∙ k)

-- of two nodes that are not one only one is below the other
pub not_above : (a b : ConId) (f : Forest) → Once f → has a (only b f) ≡ true → same b a ≡ false → has b (only a f) ≡ false
not_above a b end once h other = refl
not_above a b (con part kids floats rest) once h other =
    step (same part.id b) (has b kids) (has b floats) refl (λ k. not_above a b kids (once_kids part kids floats rest once) k other) (λ k. not_above a b floats (once_floats part kids floats rest once) k other) (λ k. not_above a b rest (once_rest part kids floats rest once) k other) h
  where
    absent : (g : Forest) → has b g ≡ false → has b (only a g) ≡ false
    absent g n = by (has b (only a g)) refl where
      by : (e : Bool) → has b (only a g) ≡ e → has b (only a g) ≡ false
      by false e = e
      by true e = let k = has_only b a g e in absurd (cc)

    here : (s k l : Bool) → s ≡ false → (has b kids ≡ false) × (has b floats ≡ false) × (has b rest ≡ false) → (s || k || l || false) ≡ true
        → has b (cond s (con part kids floats end) (cond k (only a kids) (cond l (only a floats) (only a rest)))) ≡ false
    here true k l e n h = cc
    here false true l e n h = absent kids n.0
    here false false true e n h = absent floats n.1
    here false false false e n h = cc

    step : (s k l : Bool) → same part.id b ≡ s → (has a (only b kids) ≡ true → has b (only a kids) ≡ false) → (has a (only b floats) ≡ true → has b (only a floats) ≡ false) → (has a (only b rest) ≡ true → has b (only a rest) ≡ false)
        → has a (cond s (con part kids floats end) (cond k (only b kids) (cond l (only b floats) (only b rest)))) ≡ true → has b (only a (con part kids floats rest)) ≡ false
    step true k l e p q r h =
        let not_a : same part.id a ≡ false = rw (same_is part.id b e) other in
        here (same part.id a) (has a kids) (has a floats) not_a (not_below part kids floats rest once b e) h
    step false true l e p q r h = rw (down_kids part kids floats rest once a (has_only a b kids h)) (p h)
    step false false true e p q r h = rw (down_floats part kids floats rest once a (has_only a b floats h)) (q h)
    step false false false e p q r h = rw (down_rest part kids floats rest once a (has_only a b rest h)) (r h)

-- ---- the node that holds another one

abbrev holder_in : Spot → ConId → Forest → Option ConId
holder_in s c f = option_and_then (λ (x : Spot). x.holder) (spot_in s c f)

holder_is_node : (tiled : Bool) (id p : ConId) (kind : NodeKind) → holder_by tiled id kind ≡ Some p → id ≡ p
holder_is_node true id p (Root c) h = cc
holder_is_node false id p (Root c) h = cc
holder_is_node tiled id p (Output o) h = cc
holder_is_node tiled id p (Space s) h = cc
holder_is_node tiled id p (Con c) h = cc

-- the holder is that of the row, or a node that has c below it
abbrev pub IsHolder : Spot → ConId → ConId → Forest → Type 0
IsHolder s c p f = (s.holder ≡ Some p) ⊎ ((has c (only p f) ≡ true) × (same p c ≡ false))

pub held_below : (s : Spot) (c p : ConId) (f : Forest) → Once f → holder_in s c f ≡ Some p → IsHolder s c p f
held_below s c p end once h = cc
held_below s c p (con part kids floats rest) once h =
    step (same part.id c) (has c kids) (has c floats) refl refl refl (held_below (spot_below true s part) c p kids (once_kids part kids floats rest once)) (held_below (spot_below false s part) c p floats (once_floats part kids floats rest once))
    (held_below s c p rest (once_rest part kids floats rest once)) h
  where
    node : Forest
    node = con part kids floats rest

    there_in : (g : Forest) → has c (only p g) ≡ true → has p g ≡ true
    there_in g h = by (has p g) refl where
      by : (b : Bool) → has p g ≡ b → has p g ≡ true
      by true e = e
      by false e = absurd (omega (arith, counted c (only p g) h, ap (tally c) (only_absent p g e)))

    here : part.id ≡ p → same part.id c ≡ false → has c (con part kids floats end) ≡ true → IsHolder s c p node
    here e other h = inr (rw (same_self part.id p e) h, rw (← e) other)

    step : (a k l : Bool) → same part.id c ≡ a → has c kids ≡ k → has c floats ≡ l → (holder_in (spot_below true s part) c kids ≡ Some p → IsHolder (spot_below true s part) c p kids)
        → (holder_in (spot_below false s part) c floats ≡ Some p → IsHolder (spot_below false s part) c p floats) → (holder_in s c rest ≡ Some p → IsHolder s c p rest)
        → option_and_then (λ (x : Spot). x.holder) (cond a (Some (spot_of s part)) (cond k (spot_in (spot_below true s part) c kids) (cond l (spot_in (spot_below false s part) c floats) (spot_in s c rest)))) ≡ Some p
        → IsHolder s c p node
    step true k l ea ek el u v w h = inl h
    step false true l ea ek el u v w h = by (u h) where
      by : IsHolder (spot_below true s part) c p kids → IsHolder s c p node
      by (inl e) = here (holder_is_node true part.id p part.kind e) ea (rw (ea, ek) refl)
      by (inr x) = inr (rw (down_kids part kids floats rest once p (there_in kids x.0)) x.0, x.1)
    step false false true ea ek el u v w h = by (v h) where
      by : IsHolder (spot_below false s part) c p floats → IsHolder s c p node
      by (inl e) = here (holder_is_node false part.id p part.kind e) ea (rw (ea, ek, el) refl)
      by (inr x) = inr (rw (down_floats part kids floats rest once p (there_in floats x.0)) x.0, x.1)
    step false false false ea ek el u v w h = by (w h) where
      by : IsHolder s c p rest → IsHolder s c p node
      by (inl e) = inl e
      by (inr x) = inr (rw (down_rest part kids floats rest once p (there_in rest x.0)) x.0, x.1)
