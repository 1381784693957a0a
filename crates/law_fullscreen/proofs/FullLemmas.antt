-- A container that becomes fullscreen is the only one of its workspace.
use Rattle.std.proofs.Common.{◌≡◌, ℕ, ◌≤◌, Bool, true, false, cond, Option, Some, refl, ap, sym, ◌∙◌, arith}
use Rattle.wm_base.specs.declared.ids.ConId.{ConId}
use Rattle.wm_floats.specs.Fullscreen.{is_full, unfull_but}
use Rattle.law_fullscreen.proofs.RowLemmas.{full_but, others-unfull}
use Rattle.law_fullscreen.proofs.WithinLemmas.{space_in, within-most}
use Rattle.law_fullscreen.specs.Fullscreen.{within}
use Rattle.wm_forest.proofs.CountLemmas.{counted, tally-absent}
use Rattle.wm_forest.proofs.RecencyLemmas.{same_is, same_self}
use Rattle.wm_forest.specs.Change.{at, is_id}
use Rattle.wm_forest.specs.Counts.{count, one_space}
use Rattle.wm_forest.specs.declared.part.NodeKind.{NodeKind}
use Rattle.wm_forest.specs.declared.part.NodeKind.TheVariants.{Root, Output, Space, Con}
use Rattle.wm_forest.specs.declared.part.Part.{Part}
use Rattle.wm_forest.specs.declared.spot.Spot.{Spot}
use Rattle.wm_forest.specs.Forest.{Forest, end, con}
use Rattle.wm_forest.specs.Look.{has, same}
use Rattle.wm_forest.specs.SoundRow.{one_of, tally}
use Rattle.wm_forest.specs.Spot.{space_at, space_by, spot_below, spot_in, spot_of}

-- ---- what stands in a workspace that is not there

-- one for a workspace with the id w
abbrev pub space_id : ConId → Part → ℕ
space_id w part = cond (same part.id w) (one_space part.kind) 0

pub same_turned : (a b : ConId) → same a b ≡ false → same b a ≡ false
same_turned a b h = by (same b a) refl
  where
    by : (d : Bool) → same b a ≡ d → d ≡ false
    by true e = let bad : true ≡ false = sym (same_self a b (sym (same_is b a e))) ∙ h in cc
    by false e = refl

-- the rows below what is not the workspace w are not in w
pub apart_below : (w : ConId) (space : Option ConId) (id : ConId) (kind : NodeKind) → is_id w space ≡ false → cond (same id w) (one_space kind) 0 ≡ 0 → is_id w (space_by space id kind) ≡ false
apart_below w space id (Root c) e none = e
apart_below w space id (Output o) e none = e
apart_below w space id (Space s) e none = same_turned id w (by (same id w) none)
  where
    by : (b : Bool) → ◌≡◌ {A = ℕ} (cond b 1 0) 0 → b ≡ false
    by true h = absurd (omega (arith, h))
    by false h = refl
apart_below w space id (Con c) e none = e

-- where there is no workspace w, nothing counts within it
pub within-none : (m : Part → ℕ) (w : ConId) (space : Option ConId) (f : Forest) → count (space_id w) f ≡ 0 → is_id w space ≡ false → within m w space f ≡ 0
within-none m w space end none e = refl
within-none m w space (con part kids floats rest) none e =
    let below : is_id w (space_at space part) ≡ false = apart_below w space part.id part.kind e (omega (arith, none)) in
    let own : cond (is_id w (space_at space part)) (m part) 0 ≡ 0 = rw below refl in
    omega (
      arith,
      own,
      within-none m w (space_at space part) kids (omega (arith, none)) below,
      within-none m w (space_at space part) floats (omega (arith, none)) below,
      within-none m w space rest (omega (arith, none)) e,
    )

space_one : (b : Bool) (kind : NodeKind) → cond b (one_space kind) 0 ≤ cond b 1 0
space_one true (Root c) = omega arith
space_one true (Output o) = omega arith
space_one true (Space s) = omega arith
space_one true (Con c) = omega arith
space_one false kind = omega arith

pub spaces_tallied : (w : ConId) (f : Forest) → count (space_id w) f ≤ tally w f
spaces_tallied w end = omega arith
spaces_tallied w (con part kids floats rest) = omega (arith, space_one (same part.id w) part.kind, spaces_tallied w kids, spaces_tallied w floats, spaces_tallied w rest)

-- a row without the id w
gone : (m : Part → ℕ) (w : ConId) (space : Option ConId) (f : Forest) → tally w f ≡ 0 → is_id w space ≡ false → within m w space f ≡ 0
gone m w space f none e = within-none m w space f (omega (arith, none, spaces_tallied w f)) e

-- ---- the workspace of a node

pub here_one : (c : ConId) (part : Part) → same part.id c ≡ true → one_of c part ≡ 1
here_one c part e = ap (λ b. cond {A = ℕ} b 1 0) e

within_own : (w c : ConId) (space : Option ConId) (part : Part) → one_of c part ≡ 0 → cond (is_id w (space_at space part)) (one_of c part) 0 ≡ 0
within_own w c space part e = by (is_id w (space_at space part))
  where
    by : (b : Bool) → cond b (one_of c part) 0 ≡ 0
    by true = e
    by false = refl

-- a node counts in no workspace but its own
pub elsewhere : (w c : ConId) (s : Spot) (f : Forest) → tally c f ≤ 1 → is_id w (space_in (spot_in s c f)) ≡ false → within (one_of c) w s.space f ≡ 0
elsewhere w c s end once e = refl
elsewhere w c s (con part kids floats rest) once e =
    step (same part.id c) (has c kids) (has c floats) refl refl refl e
    (elsewhere w c (spot_below true s part) kids (omega (arith, once))) (elsewhere w c (spot_below false s part) floats (omega (arith, once))) (elsewhere w c s rest (omega (arith, once)))
  where
    most : (space : Option ConId) (g : Forest) → within (one_of c) w space g ≤ tally c g
    most space g = within-most (one_of c) w space g

    step : (a k l : Bool) → same part.id c ≡ a → has c kids ≡ k → has c floats ≡ l
        → is_id w (space_in (cond a (Some (spot_of s part)) (cond k (spot_in (spot_below true s part) c kids) (cond l (spot_in (spot_below false s part) c floats) (spot_in s c rest))))) ≡ false
        → (is_id w (space_in (spot_in (spot_below true s part) c kids)) ≡ false → within (one_of c) w (space_at s.space part) kids ≡ 0)
        → (is_id w (space_in (spot_in (spot_below false s part) c floats)) ≡ false → within (one_of c) w (space_at s.space part) floats ≡ 0)
        → (is_id w (space_in (spot_in s c rest)) ≡ false → within (one_of c) w s.space rest ≡ 0)
        → within (one_of c) w s.space (con part kids floats rest) ≡ 0
    step true k l ea ek el h p q r =
        let one : one_of c part ≡ 1 = here_one c part ea in
        let own : cond (is_id w (space_at s.space part)) (one_of c part) 0 ≡ 0 = ap (λ b. cond b (one_of c part) 0) h in
        omega (arith, once, one, own, most (space_at s.space part) kids, most (space_at s.space part) floats, most s.space rest)
    step false true l ea ek el h p q r =
        let none : one_of c part ≡ 0 = ap (λ b. cond {A = ℕ} b 1 0) ea in
        omega (arith, once, none, within_own w c s.space part none, counted c kids ek, p h, most (space_at s.space part) floats, most s.space rest)
    step false false true ea ek el h p q r =
        let none : one_of c part ≡ 0 = ap (λ b. cond {A = ℕ} b 1 0) ea in
        omega (arith, once, none, within_own w c s.space part none, counted c floats el, q h, tally-absent c kids ek, most (space_at s.space part) kids, most s.space rest)
    step false false false ea ek el h p q r =
        let none : one_of c part ≡ 0 = ap (λ b. cond {A = ℕ} b 1 0) ea in
        omega (arith, once, none, within_own w c s.space part none, r h, tally-absent c kids ek, tally-absent c floats el, most (space_at s.space part) kids, most (space_at s.space part) floats)

-- ---- a workspace in which the others lose fullscreen

free_full : (c : ConId) (part : Part) → one_space part.kind ≡ 1 → full_but c part ≡ 0
free_full c part e = by (same part.id c) part.kind e
  where
    by : (b : Bool) (kind : NodeKind) → one_space kind ≡ 1 → ◌≡◌ {A = ℕ} (cond b 0 (cond (is_full kind) 1 0)) 0
    by true kind h = refl
    by false (Root d) h = refl
    by false (Output o) h = refl
    by false (Space s) h = refl
    by false (Con d) h = absurd (omega (arith, h))

own_free : (w c : ConId) (space : Option ConId) (part : Part) → is_id w space ≡ false → cond (is_id w (space_at space part)) (full_but c part) 0 ≡ 0
own_free w c space part e = by (is_id w (space_at space part)) refl
  where
    none : (kind : NodeKind) → part.kind ≡ kind → is_id w (space_by space part.id kind) ≡ true → full_but c part ≡ 0
    none (Root d) k h = let bad : true ≡ false = sym h ∙ e in cc
    none (Output o) k h = let bad : true ≡ false = sym h ∙ e in cc
    none (Space s) k h = free_full c part (ap one_space k)
    none (Con d) k h = let bad : true ≡ false = sym h ∙ e in cc

    by : (b : Bool) → is_id w (space_at space part) ≡ b → cond b (full_but c part) 0 ≡ 0
    by true h = none part.kind refl h
    by false h = refl

not_one : (b : Bool) (kind : NodeKind) → b ≡ false → cond b (one_space kind) 0 ≡ 0
not_one b kind e = rw e refl

-- then none but c is fullscreen there
pub alone : (w c : ConId) (space : Option ConId) (f : Forest) → is_id w space ≡ false → tally w f ≤ 1 → within (full_but c) w space (at w unfull_but c f) ≡ 0
alone w c space end e once = refl
alone w c space (con part kids floats rest) e once =
    step (same part.id w) (has w kids) (has w floats) refl refl refl (λ d. alone w c (space_at space part) kids d (omega (arith, once))) (λ d. alone w c (space_at space part) floats d (omega (arith, once)))
    (alone w c space rest e (omega (arith, once)))
  where
    own : cond (is_id w (space_at space part)) (full_but c part) 0 ≡ 0
    own = own_free w c space part e

    low : same part.id w ≡ false → is_id w (space_at space part) ≡ false
    low d = apart_below w space part.id part.kind e (not_one (same part.id w) part.kind d)

    step : (a k l : Bool) → same part.id w ≡ a → has w kids ≡ k → has w floats ≡ l
        → (is_id w (space_at space part) ≡ false → within (full_but c) w (space_at space part) (at w unfull_but c kids) ≡ 0)
        → (is_id w (space_at space part) ≡ false → within (full_but c) w (space_at space part) (at w unfull_but c floats) ≡ 0)
        → within (full_but c) w space (at w unfull_but c rest) ≡ 0
        → within (full_but c) w space (cond a (unfull_but c part kids floats rest) (cond k (con part (at w unfull_but c kids) floats rest) (cond l (con part kids (at w unfull_but c floats) rest) (con part kids floats (at w unfull_but c rest))))) ≡ 0
    step true k l ea ek el p q r =
        let one : one_of w part ≡ 1 = here_one w part ea in
        omega (arith, own, others-unfull w c (space_at space part) kids, others-unfull w c (space_at space part) floats, gone (full_but c) w space rest (omega (arith, once, one)) e)
    step false true l ea ek el p q r =
        let some = counted w kids ek in
        omega (arith, own, p (low ea), gone (full_but c) w (space_at space part) floats (omega (arith, once, some)) (low ea), gone (full_but c) w space rest (omega (arith, once, some)) e)
    step false false true ea ek el p q r =
        let some = counted w floats el in
        omega (arith, own, gone (full_but c) w (space_at space part) kids (tally-absent w kids ek) (low ea), q (low ea), gone (full_but c) w space rest (omega (arith, once, some)) e)
    step false false false ea ek el p q r =
        omega (arith, own, gone (full_but c) w (space_at space part) kids (tally-absent w kids ek) (low ea), gone (full_but c) w (space_at space part) floats (tally-absent w floats el) (low ea), r)
