-- Lemmas on the order of recency.
use Rattle.std.proofs.Common.{◌≡◌, ℕ, zero, suc, ◌+◌, ◌<◌, Bool, true, false, List, [], ◌∷◌, ◌++◌, Some, None, length, take, drop, length-take, ◌-◌, refl, ap, arith, add-one}
use Rattle.std.proofs.lemmas.Bool.{eq-eqb, eqb-true}
use Rattle.wm_base.specs.declared.ids.ConId.{ConId}
use Rattle.wm_forest.specs.Look.{same}
use Rattle.wm_forest.specs.Recency.{place_from, lists, removed, raised}

-- ids that are one by the test are equal
pub same_is : (a b : ConId) → same a b ≡ true → a ≡ b
same_is a b h =
    let of : ℕ → ConId = λ n. record { 0 = n } in
    ap of (eqb-true a.0 b.0 h)

pub same_self : (a b : ConId) → a ≡ b → same a b ≡ true
same_self a b e = eq-eqb a.0 b.0 (ap (λ (x : ConId). x.0) e)

-- c stands at place k of the list, and nowhere before it
pub record IsPlacedAt (c : ConId) (ids : List ConId) (k : ℕ) : Type 0 where
  pub here : drop k (take (suc k) ids) ≡ c ∷ []
  pub others : take k (take (suc k) ids) ++ drop (suc k) ids ≡ removed c ids
  pub listed : lists c ids ≡ true
  pub within : k < length ids

module _ (c : ConId) where
  -- what is placed in the rest is placed one further in the whole
  further : (id : ConId) (ids : List ConId) (k : ℕ) → same id c ≡ false → IsPlacedAt c ids k → IsPlacedAt c (id ∷ ids) (suc k)
  further id ids k e p = record {
    here = p.here;
    others = rw e (ap (λ z. id ∷ z) p.others);
    listed = rw e p.listed;
    within = omega (arith, p.within);
  }

  first : (id : ConId) (ids : List ConId) → same id c ≡ true → IsPlacedAt c (id ∷ ids) zero
  first id ids e = record { here = ap (λ z. z ∷ []) (same_is id c e); others = rw e refl; listed = rw e refl; within = omega arith }

  abbrev Places : ℕ → List ConId → Type 0
  Places n ids = (m : ℕ) → place_from n c ids ≡ Some m → (k : ℕ) × (m ≡ n + k) × IsPlacedAt c ids k

  placed_step : (id : ConId) (ids : List ConId) (n : ℕ) (b : Bool) → same id c ≡ b → Places (n + 1) ids → Places n (id ∷ ids)
  placed_step id ids n true e rest m h =
      let found : Some n ≡ Some m = rw e at h in
      let at : n ≡ m = cc in
      (zero, omega arith, first id ids e)
  placed_step id ids n false e rest m h =
      let r = rest m (rw e at h) in
      (suc r.0, omega (arith, r.1), further id ids r.0 e r.2)

  pub placed : (ids : List ConId) (n : ℕ) → Places n ids
  placed [] n m h = cc
  placed (id ∷ ids) n m h = placed_step id ids n (same id c) refl (placed ids (n + 1)) m h

  absent_step : (id : ConId) (ids : List ConId) (n : ℕ) (b : Bool) → same id c ≡ b → (place_from (n + 1) c ids ≡ None → lists c ids ≡ false) → place_from n c (id ∷ ids) ≡ None → lists c (id ∷ ids) ≡ false
  absent_step id ids n true e rest h = let found : Some n ≡ None = rw e at h in cc
  absent_step id ids n false e rest h = rw e (rest (rw e at h))

  -- where no place is found the list doesn't have c
  pub not_placed : (ids : List ConId) (n : ℕ) → place_from n c ids ≡ None → lists c ids ≡ false
  not_placed [] n h = refl
  not_placed (id ∷ ids) n h = absent_step id ids n (same id c) refl (not_placed ids (n + 1)) h

  -- the places up to k, with the last one moved first, and the places behind
  pub raised_at : (ids : List ConId) (k : ℕ) → IsPlacedAt c ids k → (drop k (take (k + 1) ids) ++ take k (take (k + 1) ids)) ++ drop (k + 1) ids ≡ raised c ids
  raised_at ids k p = rw (add-one, p.here, p.listed) (ap (λ z. c ∷ z) p.others)

  pub raised_absent : (ids : List ConId) → place_from 0 c ids ≡ None → ids ≡ raised c ids
  raised_absent ids h = rw (not_placed ids 0 h) refl

  -- the list up to a place, turned by one, and the places behind
  pub raised_turned : (ids turned : List ConId) (at : ℕ) → place_from 0 c ids ≡ Some at → turned ≡ drop (length (take (at + 1) ids) - 1) (take (at + 1) ids) ++ take (length (take (at + 1) ids) - 1) (take (at + 1) ids)
      → turned ++ drop (at + 1) ids ≡ raised c ids
  raised_turned ids turned at found e =
      let p = placed ids 0 at found in
      let same_place : at ≡ p.0 = omega (arith, p.1) in
      let within = p.2.within in
      let ends : length (take (at + 1) ids) - 1 ≡ at = omega (arith, length-take (at + 1) ids) in
      rw (e, ends, same_place) (raised_at ids p.0 p.2)
