-- What counts within a workspace when containers lose fullscreen, go to the end of a row, or come to another place.
use Rattle.std.proofs.Common.{◌≡◌, ℕ, ◌+◌, ◌≤◌, Bool, true, false, cond, Option, refl, ◌∙◌, arith}
use Rattle.wm_base.specs.declared.geometry.Rect.{Rect}
use Rattle.wm_base.specs.declared.ids.ConId.{ConId}
use Rattle.wm_floats.specs.Fullscreen.{is_full}
use Rattle.law_fullscreen.proofs.WithinLemmas.{cond_most, within-append, within-most}
use Rattle.law_fullscreen.specs.Fullscreen.{full_of, within}
use Rattle.wm_tree.proofs.RaiseLemmas.{count-unfull}
use Rattle.wm_forest.specs.Change.{append, arriving, is_id, nobody, placed, to_end, unfull, unfull_kind}
use Rattle.wm_forest.specs.Counts.{but, row_length}
use Rattle.wm_forest.specs.declared.part.NodeKind.{NodeKind}
use Rattle.wm_forest.specs.declared.part.NodeKind.TheVariants.{Root, Output, Space, Con}
use Rattle.wm_forest.specs.declared.part.Part.{Part}
use Rattle.wm_forest.specs.Forest.{Forest, end, con}
use Rattle.wm_forest.specs.Look.{first_alone, in_row, node_in, same}
use Rattle.wm_forest.specs.SoundRow.{one_of, tally}
use Rattle.wm_forest.specs.Spot.{space_at, space_by}

-- one for a fullscreen container other than c
abbrev pub full_but : ConId → Part → ℕ
full_but c part = cond (same part.id c) 0 (full_of part)

-- ---- kinds

pub unfull_none : (kind : NodeKind) → is_full (unfull_kind kind) ≡ false
unfull_none (Root c) = refl
unfull_none (Output o) = refl
unfull_none (Space s) = refl
unfull_none (Con c) = refl

pub space_unfull : (space : Option ConId) (id : ConId) (kind : NodeKind) → space_by space id (unfull_kind kind) ≡ space_by space id kind
space_unfull space id (Root c) = refl
space_unfull space id (Output o) = refl
space_unfull space id (Space s) = refl
space_unfull space id (Con c) = refl

pub full_placed : (share : ℕ) (rect : Option Rect) (kind : NodeKind) → is_full (placed share rect kind) ≡ is_full kind
full_placed share rect (Root c) = refl
full_placed share rect (Output o) = refl
full_placed share rect (Space s) = refl
full_placed share rect (Con c) = refl

pub space_placed : (space : Option ConId) (id : ConId) (share : ℕ) (rect : Option Rect) (kind : NodeKind) → space_by space id (placed share rect kind) ≡ space_by space id kind
space_placed space id share rect (Root c) = refl
space_placed space id share rect (Output o) = refl
space_placed space id share rect (Space s) = refl
space_placed space id share rect (Con c) = refl

pub full_unfull : (part : Part) → full_of (record part { kind = unfull_kind part.kind }) ≤ full_of part
full_unfull part = rw (unfull_none part.kind) (omega arith)

-- ---- losing fullscreen

module _ (m : Part → ℕ) (w : ConId) (c : ConId) (less : (part : Part) → m (record part { kind = unfull_kind part.kind }) ≤ m part) where
  unfull_step : (b : Bool) (space : Option ConId) (part : Part) (kids floats rest : Forest) → within m w (space_at space part) (unfull c kids) ≤ within m w (space_at space part) kids
      → within m w (space_at space part) (unfull c floats) ≤ within m w (space_at space part) floats → within m w space (unfull c rest) ≤ within m w space rest
      → within m w space (con (cond b part (record part { kind = unfull_kind part.kind })) (unfull c kids) (unfull c floats) (unfull c rest)) ≤ within m w space (con part kids floats rest)
  unfull_step true space part kids floats rest p q r = omega (arith, p, q, r)
  unfull_step false space part kids floats rest p q r =
      rw (space_unfull space part.id part.kind) (omega (arith, p, q, r, cond_most (is_id w (space_at space part)) (m (record part { kind = unfull_kind part.kind })) (m part) (less part)))

  pub within-unfull : (space : Option ConId) (f : Forest) → within m w space (unfull c f) ≤ within m w space f
  within-unfull space end = omega arith
  within-unfull space (con part kids floats rest) = unfull_step (same part.id c) space part kids floats rest (within-unfull (space_at space part) kids) (within-unfull (space_at space part) floats) (within-unfull space rest)

zero_by : (b : Bool) (n : ℕ) → n ≡ 0 → cond b n 0 ≡ 0
zero_by true n e = e
zero_by false n e = refl

-- a part that keeps fullscreen or loses it
abbrev lessened : Bool → Part → Part
lessened b part = cond b part (record part { kind = unfull_kind part.kind })

-- then no other one is fullscreen
pub others-unfull : (w c : ConId) (space : Option ConId) (f : Forest) → within (full_but c) w space (unfull c f) ≡ 0
others-unfull w c space end = refl
others-unfull w c space (con part kids floats rest) =
    step (same part.id c) refl (λ v. others-unfull w c v kids) (λ v. others-unfull w c v floats) (others-unfull w c space rest)
  where
    whole : (b : Bool) → full_but c (lessened b part) ≡ 0 → ((v : Option ConId) → within (full_but c) w v (unfull c kids) ≡ 0) → ((v : Option ConId) → within (full_but c) w v (unfull c floats) ≡ 0)
        → within (full_but c) w space (unfull c rest) ≡ 0 → within (full_but c) w space (con (lessened b part) (unfull c kids) (unfull c floats) (unfull c rest)) ≡ 0
    whole b none p q r = omega (arith, zero_by (is_id w (space_at space (lessened b part))) (full_but c (lessened b part)) none, p (space_at space (lessened b part)), q (space_at space (lessened b part)), r)

    step : (b : Bool) → same part.id c ≡ b → ((v : Option ConId) → within (full_but c) w v (unfull c kids) ≡ 0) → ((v : Option ConId) → within (full_but c) w v (unfull c floats) ≡ 0)
        → within (full_but c) w space (unfull c rest) ≡ 0 → within (full_but c) w space (con (lessened b part) (unfull c kids) (unfull c floats) (unfull c rest)) ≡ 0
    step true e p q r = whole true (rw e refl) p q r
    step false e p q r = whole false (rw (e, unfull_none part.kind) refl) p q r

-- the fullscreen containers of a workspace are those other than c, and c at most
pub within-split : (w c : ConId) (space : Option ConId) (f : Forest) → within full_of w space f ≤ within (full_but c) w space f + within (one_of c) w space f
within-split w c space end = omega arith
within-split w c space (con part kids floats rest) =
    omega (
      arith,
      step (is_id w (space_at space part)) (same part.id c) (is_full part.kind),
      within-split w c (space_at space part) kids,
      within-split w c (space_at space part) floats,
      within-split w c space rest,
    )
  where
    step : (b a k : Bool) → cond b (cond k 1 0) 0 ≤ cond b (cond a 0 (cond k 1 0)) 0 + cond b (cond a 1 0) 0
    step true true true = omega arith
    step true true false = omega arith
    step true false k = omega arith
    step false a k = omega arith

-- where no id is that of nobody, no container stays fullscreen
pub within-cleared : (w : ConId) (space : Option ConId) (f : Forest) → tally nobody f ≡ 0 → within full_of w space (unfull nobody f) ≡ 0
within-cleared w space f low =
    omega (
      arith,
      low,
      within-split w nobody space (unfull nobody f),
      others-unfull w nobody space f,
      within-most (one_of nobody) w space (unfull nobody f),
      count-unfull nobody (one_of nobody) (λ part. refl) f,
    )

-- ---- the end of a row

module _ (m : Part → ℕ) (w : ConId) (c : ConId) (space : Option ConId) where
  within-but : (f : Forest) → within m w space (but c f) + within m w space (first_alone (node_in c f)) ≡ within m w space f
  within-but end = refl
  within-but (con part kids floats rest) = step (same part.id c) (within-but rest)
    where
      step : (b : Bool) → within m w space (but c rest) + within m w space (first_alone (node_in c rest)) ≡ within m w space rest
          → within m w space (cond b rest (con part kids floats (but c rest))) + within m w space (first_alone (cond b (con part kids floats rest) (node_in c rest))) ≡ within m w space (con part kids floats rest)
      step true h = omega arith
      step false h = omega (arith, h)

  pub within-to_end : (f : Forest) → within m w space (to_end c f) ≡ within m w space f
  within-to_end f = step (in_row c f)
    where
      step : (b : Bool) → within m w space (cond b (append (but c f) (first_alone (node_in c f))) f) ≡ within m w space f
      step true = within-append m w space (but c f) (first_alone (node_in c f)) ∙ within-but f
      step false = refl

-- ---- coming to another place

-- what comes from the same workspace counts as before
pub within-arriving : (w : ConId) (space : Option ConId) (share : ℕ) (rect : Option Rect) (f : Forest) → within full_of w space (arriving share rect false f) ≡ within full_of w space f
within-arriving w space share rect end = refl
within-arriving w space share rect (con part kids floats rest) = rw (space_placed space part.id share rect part.kind, full_placed share rect part.kind) refl

-- what comes from another one is not fullscreen
pub within-away : (w : ConId) (space : Option ConId) (share : ℕ) (rect : Option Rect) (f : Forest) → row_length f ≤ 1 → tally nobody f ≡ 0 → within full_of w space (arriving share rect true f) ≡ 0
within-away w space share rect end one low = refl
within-away w space share rect (con part kids floats (con q k l r)) one low = absurd (omega (arith, one))
within-away w space share rect (con part kids floats end) one low =
    let now : Part = record part { kind = unfull_kind (placed share rect part.kind) } in
    let none : full_of now ≡ 0 = rw (unfull_none (placed share rect part.kind)) refl in
    omega (
      arith,
      zero_by (is_id w (space_at space now)) (full_of now) none,
      within-cleared w (space_at space now) kids (omega (arith, low)),
      within-cleared w (space_at space now) floats (omega (arith, low)),
    )
