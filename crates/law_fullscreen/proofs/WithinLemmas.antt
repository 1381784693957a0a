-- What counts within a workspace when a node is changed, taken out, or put in.
use Rattle.std.proofs.Common.{◌≡◌, ℕ, ◌+◌, ◌≤◌, Bool, true, false, cond, Option, None, Some, refl, arith}
use Rattle.std.specs.Prelude.{option_and_then}
use Rattle.wm_base.specs.declared.ids.ConId.{ConId}
use Rattle.law_fullscreen.specs.Fullscreen.{within}
use Rattle.wm_forest.proofs.ChangeLemmas.{by_place}
use Rattle.wm_forest.specs.Change.{append, at, is_id, without}
use Rattle.wm_forest.specs.Counts.{count}
use Rattle.wm_forest.specs.declared.part.NodeKind.{NodeKind}
use Rattle.wm_forest.specs.declared.part.NodeKind.TheVariants.{Root, Output, Space, Con}
use Rattle.wm_forest.specs.declared.part.Part.{Part}
use Rattle.wm_forest.specs.declared.spot.Spot.{Spot}
use Rattle.wm_forest.specs.Forest.{Forest, end, con}
use Rattle.wm_forest.specs.Look.{first_part, has, only, same, space_kind}
use Rattle.wm_forest.specs.SoundRow.{Level, containers}
use Rattle.wm_forest.specs.Spot.{space_at, space_by, spot_in}

-- the workspace of the spot of a node
abbrev pub space_in : Option Spot → Option ConId
space_in o = option_and_then (λ (s : Spot). s.space) o

pub space_twice : (space : Option ConId) (id : ConId) (kind : NodeKind) → space_by (space_by space id kind) id kind ≡ space_by space id kind
space_twice space id (Root c) = refl
space_twice space id (Output o) = refl
space_twice space id (Space s) = refl
space_twice space id (Con c) = refl

-- what is no workspace stands in that of its row
pub space_free : (space : Option ConId) (id : ConId) (kind : NodeKind) → space_kind kind ≡ None → space_by space id kind ≡ space
space_free space id (Root c) e = refl
space_free space id (Output o) e = refl
space_free space id (Space s) e = cc
space_free space id (Con c) e = refl

pub cond_most : (b : Bool) (n k : ℕ) → n ≤ k → cond b n 0 ≤ cond b k 0
cond_most true n k h = h
cond_most false n k h = omega arith

-- ---- rows

module _ (m : Part → ℕ) (w : ConId) where
  pub within-append : (space : Option ConId) (a b : Forest) → within m w space (append a b) ≡ within m w space a + within m w space b
  within-append space end b = omega arith
  within-append space (con part kids floats rest) b = omega (arith, within-append space rest b)

  -- no more counts within a workspace than in all
  pub within-most : (space : Option ConId) (f : Forest) → within m w space f ≤ count m f
  within-most space end = omega arith
  within-most space (con part kids floats rest) =
      step (is_id w (space_at space part)) (within-most (space_at space part) kids) (within-most (space_at space part) floats) (within-most space rest)
    where
      step : (b : Bool) → within m w (space_at space part) kids ≤ count m kids → within m w (space_at space part) floats ≤ count m floats → within m w space rest ≤ count m rest
          → cond b (m part) 0 + within m w (space_at space part) kids + within m w (space_at space part) floats + within m w space rest ≤ m part + count m kids + count m floats + count m rest
      step true p q r = omega (arith, p, q, r)
      step false p q r = omega (arith, p, q, r)

  -- ---- a node that is taken out

  abbrev Parts : Level → Spot → Forest → Forest → Forest → Forest → Option Spot → Forest → Type 0
  Parts l s whole old new found sp st = within m w s.space new + within m w (space_in sp) found ≡ within m w s.space old

  -- what is left and what is taken out make the whole
  pub within-without : (c : ConId) (s : Spot) (f : Forest) → within m w s.space (without c f) + within m w (space_in (spot_in s c f)) (only c f) ≡ within m w s.space f
  within-without c s f =
      by_place c (λ row part kids floats rest. rest) end Parts
      (λ l s whole. refl)
      (λ l s whole part kids floats rest. rw (space_twice s.space part.id part.kind) (omega arith))
      (λ l s whole part kids floats rest new found sp st h. omega (arith, h))
      (λ l s whole part kids floats rest new found sp st h. omega (arith, h))
      (λ l s whole part kids floats rest new found sp st h. omega (arith, h))
      containers s f f

-- ---- a node that is changed

module _ (m : Part → ℕ) (w : ConId) {X : Type 0} (c : ConId) (f : X → Part → Forest → Forest → Forest → Forest) (x : X) (n : ℕ)
    (here : (space : Option ConId) (part : Part) (kids floats rest : Forest) → same part.id c ≡ true → within m w space (f x part kids floats rest) ≤ within m w space (con part kids floats rest) + n)
  where
    at_step : (a k l : Bool) (space : Option ConId) (part : Part) (kids floats rest : Forest) → same part.id c ≡ a
        → within m w (space_at space part) (at c f x kids) ≤ within m w (space_at space part) kids + n
        → within m w (space_at space part) (at c f x floats) ≤ within m w (space_at space part) floats + n
        → within m w space (at c f x rest) ≤ within m w space rest + n
        → within m w space (cond a (f x part kids floats rest) (cond k (con part (at c f x kids) floats rest) (cond l (con part kids (at c f x floats) rest) (con part kids floats (at c f x rest)))))
        ≤ within m w space (con part kids floats rest) + n
    at_step true k l space part kids floats rest e p q r = here space part kids floats rest e
    at_step false true l space part kids floats rest e p q r = omega (arith, p)
    at_step false false true space part kids floats rest e p q r = omega (arith, q)
    at_step false false false space part kids floats rest e p q r = omega (arith, r)

    -- a change that adds at most n where it is made
    pub within_at : (space : Option ConId) (forest : Forest) → within m w space (at c f x forest) ≤ within m w space forest + n
    within_at space end = omega arith
    within_at space (con part kids floats rest) =
        at_step (same part.id c) (has c kids) (has c floats) space part kids floats rest refl (within_at (space_at space part) kids) (within_at (space_at space part) floats) (within_at space rest)

-- C speaks of the node that is found
module _ (m : Part → ℕ) (w : ConId) {X : Type 0} (c : ConId) (f : X → Part → Forest → Forest → Forest → Forest) (x : X) (row : Forest) (C : Option Part → Type 0)
    (here : (space : Option ConId) (part : Part) (kids floats rest : Forest) → C (Some part) → within m w space (f x part kids floats rest) ≤ within m w space (con part kids floats rest) + within m w (space_at space part) row)
  where
    abbrev Adds : Level → Spot → Forest → Forest → Forest → Forest → Option Spot → Forest → Type 0
    Adds l s whole old new found sp st = C (first_part found) → within m w s.space new ≤ within m w s.space old + within m w (space_in sp) row

    -- a change that adds at most a row in the workspace of the node
    pub within_add : (s : Spot) (forest : Forest) → C (first_part (only c forest)) → within m w s.space (at c f x forest) ≤ within m w s.space forest + within m w (space_in (spot_in s c forest)) row
    within_add s forest =
        by_place c f x Adds
        (λ l s whole k. omega arith)
        (λ l s whole part kids floats rest k. here s.space part kids floats rest k)
        (λ l s whole part kids floats rest new found sp st h k. omega (arith, h k))
        (λ l s whole part kids floats rest new found sp st h k. omega (arith, h k))
        (λ l s whole part kids floats rest new found sp st h k. omega (arith, h k))
        containers s forest forest

module _ (m : Part → ℕ) (w : ConId) {X : Type 0} (c : ConId) (f : X → Part → Forest → Forest → Forest → Forest) (x : X) (row : Forest) (C : Option Part → Type 0)
    (here : (space : Option ConId) (part : Part) (kids floats rest : Forest) → C (Some part)
    → within m w space (f x part kids floats rest) + within m w (space_at space part) (con part kids floats end) ≤ within m w space (con part kids floats rest) + within m w (space_at space part) row)
  where
    abbrev Swaps : Level → Spot → Forest → Forest → Forest → Forest → Option Spot → Forest → Type 0
    Swaps l s whole old new found sp st = C (first_part found) → within m w s.space new + within m w (space_in sp) found ≤ within m w s.space old + within m w (space_in sp) row

    -- a change that takes the node out and adds at most a row in its place
    pub within_swap : (s : Spot) (forest : Forest) → C (first_part (only c forest))
        → within m w s.space (at c f x forest) + within m w (space_in (spot_in s c forest)) (only c forest) ≤ within m w s.space forest + within m w (space_in (spot_in s c forest)) row
    within_swap s forest =
        by_place c f x Swaps
        (λ l s whole k. omega arith)
        (λ l s whole part kids floats rest k. here s.space part kids floats rest k)
        (λ l s whole part kids floats rest new found sp st h k. omega (arith, h k))
        (λ l s whole part kids floats rest new found sp st h k. omega (arith, h k))
        (λ l s whole part kids floats rest new found sp st h k. omega (arith, h k))
        containers s forest forest
