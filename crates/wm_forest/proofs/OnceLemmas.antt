-- Where an id is there once, the node that is found is the one in the part where it is.
use Rattle.std.proofs.Common.{◌≡◌, ◌≤◌, Bool, true, false, cond, ◌||◌, refl, ◌∙◌, arith}
use Rattle.wm_base.specs.declared.ids.ConId.{ConId}
use Rattle.wm_forest.specs.declared.part.Part.{Part}
use Rattle.wm_forest.specs.Forest.{Forest, end, con}
use Rattle.wm_forest.specs.Change.{at}
use Rattle.wm_forest.specs.Look.{has, only, same}
use Rattle.wm_forest.specs.SoundRow.{one_of, tally}
use Rattle.wm_forest.specs.declared.spot.Spot.{Spot}
use Rattle.wm_forest.specs.Spot.{spot_below, spot_in}
use Rattle.wm_forest.proofs.ChangeLemmas.{by_change}
use Rattle.wm_forest.proofs.CountLemmas.{counted}

-- one that counts nothing is not there
not_there : (i : ConId) (f : Forest) → tally i f ≤ 0 → has i f ≡ false
not_there i f h = by_test (has i f) refl
  where
    by_test : (b : Bool) → has i f ≡ b → b ≡ false
    by_test true e = absurd (omega (arith, h, counted i f e))
    by_test false e = refl

not_here : (i : ConId) (part : Part) → one_of i part ≤ 0 → same part.id i ≡ false
not_here i part h = by_test (same part.id i) h
  where
    by_test : (b : Bool) → cond b 1 0 ≤ 0 → b ≡ false
    by_test true h = absurd (omega (arith, h))
    by_test false h = refl

any_kids : (a k l r : Bool) → k ≡ true → (a || k || l || r) ≡ true
any_kids true k l r h = refl
any_kids false true l r h = refl
any_kids false false l r h = cc

any_floats : (a k l r : Bool) → l ≡ true → (a || k || l || r) ≡ true
any_floats true k l r h = refl
any_floats false true l r h = refl
any_floats false false true r h = refl
any_floats false false false r h = cc

any_rest : (a k l r : Bool) → r ≡ true → (a || k || l || r) ≡ true
any_rest true k l r h = refl
any_rest false true l r h = refl
any_rest false false true r h = refl
any_rest false false false r h = h

module _ (i : ConId) (part : Part) (kids floats rest : Forest) where
  pub in_kids : has i kids ≡ true → has i (con part kids floats rest) ≡ true
  in_kids h = any_kids (same part.id i) (has i kids) (has i floats) (has i rest) h

  pub in_floats : has i floats ≡ true → has i (con part kids floats rest) ≡ true
  in_floats h = any_floats (same part.id i) (has i kids) (has i floats) (has i rest) h

  pub in_rest : has i rest ≡ true → has i (con part kids floats rest) ≡ true
  in_rest h = any_rest (same part.id i) (has i kids) (has i floats) (has i rest) h

  pub only_kids : tally i (con part kids floats rest) ≤ 1 → has i kids ≡ true → only i (con part kids floats rest) ≡ only i kids
  only_kids once h =
      let other : same part.id i ≡ false = not_here i part (omega (arith, once, counted i kids h)) in
      rw (other, h) refl

  pub only_floats : tally i (con part kids floats rest) ≤ 1 → has i floats ≡ true → only i (con part kids floats rest) ≡ only i floats
  only_floats once h =
      let other : same part.id i ≡ false = not_here i part (omega (arith, once, counted i floats h)) in
      let above : has i kids ≡ false = not_there i kids (omega (arith, once, counted i floats h)) in
      rw (other, above, h) refl

  pub only_rest : tally i (con part kids floats rest) ≤ 1 → has i rest ≡ true → only i (con part kids floats rest) ≡ only i rest
  only_rest once h =
      let other : same part.id i ≡ false = not_here i part (omega (arith, once, counted i rest h)) in
      let above : has i kids ≡ false = not_there i kids (omega (arith, once, counted i rest h)) in
      let beside : has i floats ≡ false = not_there i floats (omega (arith, once, counted i rest h)) in
      rw (other, above, beside) refl

-- where a node stands that is among the children, among the floating windows, or in the rest of the row
module _ (i : ConId) (s : Spot) (part : Part) (kids floats rest : Forest) where
  pub spot_kids : tally i (con part kids floats rest) ≤ 1 → has i kids ≡ true → spot_in s i (con part kids floats rest) ≡ spot_in (spot_below true s part) i kids
  spot_kids once h =
      let other : same part.id i ≡ false = not_here i part (omega (arith, once, counted i kids h)) in
      rw (other, h) refl

  pub spot_floats : tally i (con part kids floats rest) ≤ 1 → has i floats ≡ true → spot_in s i (con part kids floats rest) ≡ spot_in (spot_below false s part) i floats
  spot_floats once h =
      let other : same part.id i ≡ false = not_here i part (omega (arith, once, counted i floats h)) in
      let above : has i kids ≡ false = not_there i kids (omega (arith, once, counted i floats h)) in
      rw (other, above, h) refl

  pub spot_rest : tally i (con part kids floats rest) ≤ 1 → has i rest ≡ true → spot_in s i (con part kids floats rest) ≡ spot_in s i rest
  spot_rest once h =
      let other : same part.id i ≡ false = not_here i part (omega (arith, once, counted i rest h)) in
      let above : has i kids ≡ false = not_there i kids (omega (arith, once, counted i rest h)) in
      let beside : has i floats ≡ false = not_there i floats (omega (arith, once, counted i rest h)) in
      rw (other, above, beside) refl

-- a change of a node among the children, or in the rest of the row
module _ {X : Type 0} (i : ConId) (f : X → Part → Forest → Forest → Forest → Forest) (x : X) (part : Part) (kids floats rest : Forest) where
  pub at_kids : tally i (con part kids floats rest) ≤ 1 → has i kids ≡ true → at i f x (con part kids floats rest) ≡ con part (at i f x kids) floats rest
  at_kids once h =
      let other : same part.id i ≡ false = not_here i part (omega (arith, once, counted i kids h)) in
      rw (other, h) refl

  pub at_rest : tally i (con part kids floats rest) ≤ 1 → has i rest ≡ true → at i f x (con part kids floats rest) ≡ con part kids floats (at i f x rest)
  at_rest once h =
      let other : same part.id i ≡ false = not_here i part (omega (arith, once, counted i rest h)) in
      let above : has i kids ≡ false = not_there i kids (omega (arith, once, counted i rest h)) in
      let beside : has i floats ≡ false = not_there i floats (omega (arith, once, counted i rest h)) in
      rw (other, above, beside) refl

alone_step : (i : ConId) (a k l : Bool) (part : Part) (kids floats rest : Forest) → (a || k || l || false) ≡ true
    → cond a (con part kids floats end) (cond k (only i kids) (cond l (only i floats) (only i rest))) ≡ cond a (con part kids floats end) (cond k (only i kids) (cond l (only i floats) end))
alone_step i true k l part kids floats rest h = refl
alone_step i false true l part kids floats rest h = refl
alone_step i false false true part kids floats rest h = refl
alone_step i false false false part kids floats rest h = cc

first_has : (a k l r : Bool) → (a || k || l || false) ≡ true → (a || k || l || r) ≡ true
first_has true k l r h = refl
first_has false true l r h = refl
first_has false false true r h = refl
first_has false false false r h = cc

-- a node within a node that is found is the one that is found in the whole
abbrev Within : ConId → Forest → Forest → Forest → Type 0
Within i old new found = has i found ≡ true → (has i old ≡ true) × (tally i old ≤ 1 → only i old ≡ only i found)

pub within : (c i : ConId) (f : Forest) → Within i f (at c (λ row part kids floats rest. rest) end f) (only c f)
within c i =
    by_change c (λ row part kids floats rest. rest) end (Within i) (λ h. cc)
    (λ part kids floats rest h.
    (first_has (same part.id i) (has i kids) (has i floats) (has i rest) h, λ once. alone_step i (same part.id i) (has i kids) (has i floats) part kids floats rest h))
    (λ part kids floats rest new found ih h.
    let r = ih h in (in_kids i part kids floats rest r.0, λ once. only_kids i part kids floats rest once r.0 ∙ r.1 (omega (arith, once))))
    (λ part kids floats rest new found ih h.
    let r = ih h in (in_floats i part kids floats rest r.0, λ once. only_floats i part kids floats rest once r.0 ∙ r.1 (omega (arith, once))))
    (λ part kids floats rest new found ih h.
    let r = ih h in (in_rest i part kids floats rest r.0, λ once. only_rest i part kids floats rest once r.0 ∙ r.1 (omega (arith, once))))
