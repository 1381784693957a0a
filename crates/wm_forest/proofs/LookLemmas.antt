-- Looking for a node after another one was taken out or replaced.
use Rattle.std.proofs.Common.{◌≡◌, ℕ, ◌+◌, ◌≤◌, Bool, true, false, cond, ◌||◌, Option, Some, refl, arith}
use Rattle.wm_base.specs.declared.ids.ConId.{ConId}
use Rattle.wm_forest.specs.declared.part.Part.{Part}
use Rattle.wm_forest.specs.declared.spot.Spot.{Spot}
use Rattle.wm_forest.specs.Forest.{Forest, end, con}
use Rattle.wm_forest.specs.Change.{at, in_place, replaced, without}
use Rattle.wm_forest.specs.Counts.{but, row_length, row_with}
use Rattle.wm_forest.specs.Look.{first_kids, first_part, has, in_row, only, same}
use Rattle.wm_forest.specs.SoundRow.{Level, below, containers, tally}
use Rattle.wm_forest.specs.Spot.{spot_in, spot_of, top}
use Rattle.wm_forest.proofs.ChangeLemmas.{by_place}
use Rattle.wm_forest.proofs.CountLemmas.{counted, tally-absent}
use Rattle.wm_forest.proofs.ForestLemmas.{but_absent}

pub none_of_four : (a k l r : Bool) → (a || k || l || r) ≡ false → (a ≡ false) × (k ≡ false) × (l ≡ false) × (r ≡ false)
none_of_four false false false false h = (refl, refl, refl, refl)
none_of_four false false false true h = cc
none_of_four false false true r h = cc
none_of_four false true l r h = cc
none_of_four true k l r h = cc

-- ---- a node that is not in what is changed

-- the node i is seen in the new row as in the old one
pub record SeenAs (i : ConId) (s : Spot) (old new : Forest) : Type 0 where
  pub there : has i new ≡ has i old
  pub spot : spot_in s i new ≡ spot_in s i old
  pub part : first_part (only i new) ≡ first_part (only i old)

-- a change that leaves the rest of the row behind what has not the node i
module _ {X : Type 0} (c i : ConId) (f : X → Part → Forest → Forest → Forest → Forest) (x : X)
    (here : (s : Spot) (part : Part) (kids floats rest : Forest) → has i (con part kids floats end) ≡ false → SeenAs i s rest (f x part kids floats rest))
  where
    abbrev Seen : Level → Spot → Forest → Forest → Forest → Forest → Option Spot → Forest → Type 0
    Seen l s whole old new found sp st = has i found ≡ false → SeenAs i s old new

    at_node : (l : Level) (s : Spot) (whole : Forest) (part : Part) (kids floats rest : Forest) → Seen l s whole (con part kids floats rest) (f x part kids floats rest) (con part kids floats end) (Some (spot_of s part)) whole
    at_node l s whole part kids floats rest h =
        let n = none_of_four (same part.id i) (has i kids) (has i floats) false h in
        let e = here s part kids floats rest h in
        record {
          there = rw (n.0, n.1, n.2) e.there;
          spot = rw (n.0, n.1, n.2) e.spot;
          part = rw (n.0, n.1, n.2) e.part;
        }

    pub seen : (l : Level) (s : Spot) (whole forest : Forest) → has i (only c forest) ≡ false → SeenAs i s forest (at c f x forest)
    seen =
        by_place c f x Seen
        (λ l s whole h. record { there = refl; spot = refl; part = refl })
        at_node
        (λ l s whole part kids floats rest new found sp st ih h. let e = ih h in record { there = rw e.there refl; spot = rw (e.there, e.spot) refl; part = part_kids (same part.id i) (has i kids) part kids floats rest new e.there e.part })
        (λ l s whole part kids floats rest new found sp st ih h. let e = ih h in record { there = rw e.there refl; spot = rw (e.there, e.spot) refl; part = part_floats (same part.id i) (has i kids) part kids floats rest new e.there e.part })
        (λ l s whole part kids floats rest new found sp st ih h. let e = ih h in record { there = rw e.there refl; spot = rw e.spot refl; part = part_rest (same part.id i) (has i kids) (has i floats) part kids floats rest new e.part })
      where
        part_kids : (a k : Bool) (part : Part) (kids floats rest new : Forest) → has i new ≡ has i kids → first_part (only i new) ≡ first_part (only i kids)
            → first_part (cond a (con part new floats end) (cond (has i new) (only i new) (cond (has i floats) (only i floats) (only i rest))))
            ≡ first_part (cond a (con part kids floats end) (cond (has i kids) (only i kids) (cond (has i floats) (only i floats) (only i rest))))
        part_kids true k part kids floats rest new t e = refl
        part_kids false k part kids floats rest new t e = rw t (choose (has i kids))
          where
            choose : (b : Bool) → first_part (cond b (only i new) (cond (has i floats) (only i floats) (only i rest))) ≡ first_part (cond b (only i kids) (cond (has i floats) (only i floats) (only i rest)))
            choose true = e
            choose false = refl

        part_floats : (a k : Bool) (part : Part) (kids floats rest new : Forest) → has i new ≡ has i floats → first_part (only i new) ≡ first_part (only i floats)
            → first_part (cond a (con part kids new end) (cond k (only i kids) (cond (has i new) (only i new) (only i rest))))
            ≡ first_part (cond a (con part kids floats end) (cond k (only i kids) (cond (has i floats) (only i floats) (only i rest))))
        part_floats true k part kids floats rest new t e = refl
        part_floats false true part kids floats rest new t e = refl
        part_floats false false part kids floats rest new t e = rw t (choose (has i floats))
          where
            choose : (b : Bool) → first_part (cond b (only i new) (only i rest)) ≡ first_part (cond b (only i floats) (only i rest))
            choose true = e
            choose false = refl

        part_rest : (a k l : Bool) (part : Part) (kids floats rest new : Forest) → first_part (only i new) ≡ first_part (only i rest)
            → first_part (cond a (con part kids floats end) (cond k (only i kids) (cond l (only i floats) (only i new))))
            ≡ first_part (cond a (con part kids floats end) (cond k (only i kids) (cond l (only i floats) (only i rest))))
        part_rest true k l part kids floats rest new e = refl
        part_rest false true l part kids floats rest new e = refl
        part_rest false false true part kids floats rest new e = refl
        part_rest false false false part kids floats rest new e = e

pub seen-without : (c i : ConId) (s : Spot) (f : Forest) → has i (only c f) ≡ false → SeenAs i s f (without c f)
seen-without c i s f h = seen c i (λ row part kids floats rest. rest) end (λ s part kids floats rest n. record { there = refl; spot = refl; part = refl }) containers s f f h

-- in the place of a node, one that has not the node i either
pub seen-replaced : (c i : ConId) (s : Spot) (new : Part) (below above behind f : Forest) → has i (con new below above end) ≡ false → has i (only c f) ≡ false → SeenAs i s f (replaced c (con new below above behind) f)
seen-replaced c i s new below above behind f none h =
    let n = none_of_four (same new.id i) (has i below) (has i above) false none in
    seen c i in_place (con new below above behind) (λ s part kids floats rest m. record { there = rw (n.0, n.1, n.2) refl; spot = rw (n.0, n.1, n.2) refl; part = rw (n.0, n.1, n.2) refl }) containers s f f h

-- ---- how many nodes a row has when a node was taken out

module _ (c i : ConId) where
  -- the new row is no longer than the old one without its node c
  abbrev Shrinks : Forest → Forest → Type 0
  Shrinks new old = row_length new ≤ row_length (but c old)

  has_row : (f : Forest) → in_row c f ≡ true → has c f ≡ true
  has_row end h = cc
  has_row (con part kids floats rest) h = step (same part.id c) (has c kids) (has c floats) (has_row rest) h
    where
      step : (a k l : Bool) → (in_row c rest ≡ true → has c rest ≡ true) → (a || in_row c rest) ≡ true → (a || k || l || has c rest) ≡ true
      step true k l f h = refl
      step false true l f h = refl
      step false false true f h = refl
      step false false false f h = f h

  -- a row without the node stays as it is
  absent : (f : Forest) → tally c f ≡ 0 → Shrinks f f
  absent f none = by_test (in_row c f) refl
    where
      by_test : (b : Bool) → in_row c f ≡ b → row_length f ≤ row_length (but c f)
      by_test true e = absurd (omega (arith, none, counted c f (has_row f e)))
      by_test false e = rw (but_absent c f e) (omega arith)

  row_step : (a k l : Bool) (part : Part) (kids floats rest kids' floats' rest' : Forest) → (a ≡ false → k ≡ true → Shrinks rest rest) → (a ≡ false → l ≡ true → Shrinks rest rest) → Shrinks rest' rest
      → row_length (cond a rest (cond k (con part kids' floats rest) (cond l (con part kids floats' rest) (con part kids floats rest')))) ≤ row_length (cond a rest (con part kids floats (but c rest)))
  row_step true k l part kids floats rest kids' floats' rest' p q r = omega arith
  row_step false true l part kids floats rest kids' floats' rest' p q r = omega (arith, p refl refl)
  row_step false false true part kids floats rest kids' floats' rest' p q r = omega (arith, q refl refl)
  row_step false false false part kids floats rest kids' floats' rest' p q r = omega (arith, r)

  row_without : (f : Forest) → tally c f ≤ 1 → Shrinks (without c f) f
  row_without end once = omega arith
  row_without (con part kids floats rest) once =
      row_step (same part.id c) (has c kids) (has c floats) part kids floats rest (without c kids) (without c floats) (without c rest)
      (λ a k. absent rest (omega (arith, once, counted c kids k))) (λ a l. absent rest (omega (arith, once, counted c floats l))) (row_without rest (omega (arith, once)))

  choose4 : (P : Forest → Forest → Type 0) (a k l : Bool) (x y z w x' y' z' w' : Forest) → P x x' → P y y' → P z z' → P w w' → P (cond a x (cond k y (cond l z w))) (cond a x' (cond k y' (cond l z' w')))
  choose4 P true k l x y z w x' y' z' w' p q r s = p
  choose4 P false true l x y z w x' y' z' w' p q r s = q
  choose4 P false false true x y z w x' y' z' w' p q r s = r
  choose4 P false false false x y z w x' y' z' w' p q r s = s

  -- ---- the children of a node

  abbrev KidsShrink : Forest → Forest → Type 0
  KidsShrink new old = Shrinks (first_kids new) (first_kids old)

  tally_choose : (n : ℕ) (a k l : Bool) (x y z w : Forest) → tally c (first_kids x) ≤ n → tally c (first_kids y) ≤ n → tally c (first_kids z) ≤ n → tally c (first_kids w) ≤ n → tally c (first_kids (cond a x (cond k y (cond l z w)))) ≤ n
  tally_choose n true k l x y z w p q r s = p
  tally_choose n false true l x y z w p q r s = q
  tally_choose n false false true x y z w p q r s = r
  tally_choose n false false false x y z w p q r s = s

  kids_within : (f : Forest) → tally c (first_kids (only i f)) ≤ tally c f
  kids_within end = omega arith
  kids_within (con part kids floats rest) =
      tally_choose (tally c (con part kids floats rest)) (same part.id i) (has i kids) (has i floats) (con part kids floats end) (only i kids) (only i floats) (only i rest)
      (omega arith) (omega (arith, kids_within kids)) (omega (arith, kids_within floats)) (omega (arith, kids_within rest))

  kids_absent : (f : Forest) → tally c f ≡ 0 → KidsShrink (only i f) (only i f)
  kids_absent f none = absent (first_kids (only i f)) (omega (arith, none, kids_within f))

  abbrev NotIn : Forest → Type 0
  NotIn f = has i (only c f) ≡ false

  there_without : (f : Forest) → NotIn f → has i (without c f) ≡ has i f
  there_without f h = (seen-without c i top f h).there

  kids_step : (a k l : Bool) (part : Part) (kids floats rest : Forest) → same part.id c ≡ a → has c kids ≡ k → has c floats ≡ l → tally c (con part kids floats rest) ≤ 1
      → (NotIn kids → KidsShrink (only i (without c kids)) (only i kids)) → (NotIn floats → KidsShrink (only i (without c floats)) (only i floats)) → (NotIn rest → KidsShrink (only i (without c rest)) (only i rest))
      → has i (cond a (con part kids floats end) (cond k (only c kids) (cond l (only c floats) (only c rest)))) ≡ false
      → KidsShrink (only i (cond a rest (cond k (con part (without c kids) floats rest) (cond l (con part kids (without c floats) rest) (con part kids floats (without c rest)))))) (only i (con part kids floats rest))
  kids_step true k l part kids floats rest ea ek el once p q r h =
      let n = none_of_four (same part.id i) (has i kids) (has i floats) false h in
      let counts : tally c (con part kids floats rest) ≡ 1 + tally c kids + tally c floats + tally c rest = rw ea refl in
      rw (n.0, n.1, n.2) (kids_absent rest (omega (arith, once, counts)))
  kids_step false true l part kids floats rest ea ek el once p q r h =
      let some = counted c kids ek in
      rw (there_without kids h)
      (choose4 KidsShrink (same part.id i) (has i kids) (has i floats) (con part (without c kids) floats end) (only i (without c kids)) (only i floats) (only i rest) (con part kids floats end) (only i kids) (only i floats) (only i rest)
      (row_without kids (omega (arith, once))) (p h) (kids_absent floats (omega (arith, once, some))) (kids_absent rest (omega (arith, once, some))))
  kids_step false false true part kids floats rest ea ek el once p q r h =
      let some = counted c floats el in
      rw (there_without floats h)
      (choose4 KidsShrink (same part.id i) (has i kids) (has i floats) (con part kids (without c floats) end) (only i kids) (only i (without c floats)) (only i rest) (con part kids floats end) (only i kids) (only i floats) (only i rest)
      (absent kids (omega (arith, once, some))) (kids_absent kids (omega (arith, once, some))) (q h) (kids_absent rest (omega (arith, once, some))))
  kids_step false false false part kids floats rest ea ek el once p q r h =
      choose4 KidsShrink (same part.id i) (has i kids) (has i floats) (con part kids floats end) (only i kids) (only i floats) (only i (without c rest)) (con part kids floats end) (only i kids) (only i floats) (only i rest)
      (absent kids (tally-absent c kids ek)) (kids_absent kids (tally-absent c kids ek)) (kids_absent floats (tally-absent c floats el)) (r h)

  -- the children of a node that is not taken out
  pub kids-without : (f : Forest) → tally c f ≤ 1 → NotIn f → KidsShrink (only i (without c f)) (only i f)
  kids-without end once h = omega arith
  kids-without (con part kids floats rest) once h =
      kids_step (same part.id c) (has c kids) (has c floats) part kids floats rest refl refl refl once
      (kids-without kids (omega (arith, once))) (kids-without floats (omega (arith, once))) (kids-without rest (omega (arith, once))) h

  -- ---- the row in which a node stands

  row_none : (f whole : Forest) → tally c whole ≡ 0 → tally c f ≡ 0 → tally c (row_with i whole f) ≡ 0
  row_none end whole w n = refl
  row_none (con part kids floats rest) whole w n =
      choose4 (λ x y. tally c x ≡ 0) (same part.id i) (has i kids) (has i floats) whole (row_with i kids kids) (row_with i floats floats) (row_with i whole rest) end end end end
      w (row_none kids kids (omega (arith, n)) (omega (arith, n))) (row_none floats floats (omega (arith, n)) (omega (arith, n))) (row_none rest whole w (omega (arith, n)))

  -- where the node c is not among these, and the whole row shrinks
  row_same : (f whole whole' : Forest) → tally c f ≡ 0 → Shrinks whole' whole → Shrinks (row_with i whole' f) (row_with i whole f)
  row_same end whole whole' n h = omega arith
  row_same (con part kids floats rest) whole whole' n h =
      choose4 Shrinks (same part.id i) (has i kids) (has i floats) whole' (row_with i kids kids) (row_with i floats floats) (row_with i whole' rest) whole (row_with i kids kids) (row_with i floats floats) (row_with i whole rest)
      h (absent (row_with i kids kids) (row_none kids kids (omega (arith, n)) (omega (arith, n)))) (absent (row_with i floats floats) (row_none floats floats (omega (arith, n)) (omega (arith, n)))) (row_same rest whole whole' (omega (arith, n)) h)

  with_step : (a k l : Bool) (part : Part) (kids floats rest whole whole' : Forest) → same part.id c ≡ a → has c kids ≡ k → has c floats ≡ l → tally c (con part kids floats rest) ≤ 1 → Shrinks whole' whole
      → (NotIn kids → Shrinks (row_with i (without c kids) (without c kids)) (row_with i kids kids)) → (NotIn floats → Shrinks (row_with i (without c floats) (without c floats)) (row_with i floats floats))
      → (NotIn rest → Shrinks (row_with i whole' (without c rest)) (row_with i whole rest))
      → has i (cond a (con part kids floats end) (cond k (only c kids) (cond l (only c floats) (only c rest)))) ≡ false
      → Shrinks (row_with i whole' (cond a rest (cond k (con part (without c kids) floats rest) (cond l (con part kids (without c floats) rest) (con part kids floats (without c rest)))))) (row_with i whole (con part kids floats rest))
  with_step true k l part kids floats rest whole whole' ea ek el once w p q r h =
      let n = none_of_four (same part.id i) (has i kids) (has i floats) false h in
      let counts : tally c (con part kids floats rest) ≡ 1 + tally c kids + tally c floats + tally c rest = rw ea refl in
      rw (n.0, n.1, n.2) (row_same rest whole whole' (omega (arith, once, counts)) w)
  with_step false true l part kids floats rest whole whole' ea ek el once w p q r h =
      let some = counted c kids ek in
      rw (there_without kids h)
      (choose4 Shrinks (same part.id i) (has i kids) (has i floats) whole' (row_with i (without c kids) (without c kids)) (row_with i floats floats) (row_with i whole' rest) whole (row_with i kids kids) (row_with i floats floats) (row_with i whole rest)
      w (p h) (row_same floats floats floats (omega (arith, once, some)) (absent floats (omega (arith, once, some)))) (row_same rest whole whole' (omega (arith, once, some)) w))
  with_step false false true part kids floats rest whole whole' ea ek el once w p q r h =
      let some = counted c floats el in
      rw (there_without floats h)
      (choose4 Shrinks (same part.id i) (has i kids) (has i floats) whole' (row_with i kids kids) (row_with i (without c floats) (without c floats)) (row_with i whole' rest) whole (row_with i kids kids) (row_with i floats floats) (row_with i whole rest)
      w (row_same kids kids kids (omega (arith, once, some)) (absent kids (omega (arith, once, some)))) (q h) (row_same rest whole whole' (omega (arith, once, some)) w))
  with_step false false false part kids floats rest whole whole' ea ek el once w p q r h =
      choose4 Shrinks (same part.id i) (has i kids) (has i floats) whole' (row_with i kids kids) (row_with i floats floats) (row_with i whole' (without c rest)) whole (row_with i kids kids) (row_with i floats floats) (row_with i whole rest)
      w (row_same kids kids kids (tally-absent c kids ek) (absent kids (tally-absent c kids ek))) (row_same floats floats floats (tally-absent c floats el) (absent floats (tally-absent c floats el))) (r h)

  with_whole : (f whole whole' : Forest) → tally c f ≤ 1 → Shrinks whole' whole → NotIn f → Shrinks (row_with i whole' (without c f)) (row_with i whole f)
  with_whole end whole whole' once w h = omega arith
  with_whole (con part kids floats rest) whole whole' once w h =
      with_step (same part.id c) (has c kids) (has c floats) part kids floats rest whole whole' refl refl refl once w
      (with_whole kids kids (without c kids) (omega (arith, once)) (row_without kids (omega (arith, once))))
      (with_whole floats floats (without c floats) (omega (arith, once)) (row_without floats (omega (arith, once))))
      (with_whole rest whole whole' (omega (arith, once)) w) h

  -- the row in which a node stands that is not taken out
  pub row-without : (f : Forest) → tally c f ≤ 1 → NotIn f → Shrinks (row_with i (without c f) (without c f)) (row_with i f f)
  row-without f once h = with_whole f f (without c f) once (row_without f once) h
