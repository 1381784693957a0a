-- Where a hole is, and a node that is neither below what is replaced nor above it.
use Rattle.std.proofs.Common.{◌≡◌, Bool, true, false, cond, ◌||◌, Option, refl}
use Rattle.wm_base.specs.declared.ids.ConId.{ConId}
use Rattle.wm_forest.specs.declared.part.Part.{Part}
use Rattle.wm_forest.specs.declared.spot.Spot.{Spot}
use Rattle.wm_forest.specs.Forest.{Forest, end, con}
use Rattle.wm_forest.specs.Change.{hole, in_place, nobody, replaced}
use Rattle.wm_forest.specs.Look.{has, only, same}
use Rattle.wm_forest.specs.Exchange.{holed}
use Rattle.wm_forest.specs.Place.{is_tiled, room_by}
use Rattle.wm_forest.specs.SoundRow.{Level, containers}
use Rattle.wm_forest.specs.Spot.{spot_in}
use Rattle.wm_forest.proofs.ChangeLemmas.{by_place}
use Rattle.wm_forest.proofs.ForestLemmas.{at_absent, only_absent}
use Rattle.wm_forest.proofs.LookLemmas.{none_of_four}
use Rattle.wm_forest.proofs.StandLemmas.{HasSpot}

-- ---- where the hole is

-- the hole stands where the node stood
pub record IsHoleIn (sp : Option Spot) (s : Spot) (new : Forest) : Type 0 where
  pub there : has nobody new ≡ true
  pub found : only nobody new ≡ hole
  pub tiled : is_tiled (spot_in s nobody new) ≡ is_tiled sp
  pub room : room_by (spot_in s nobody new) ≡ room_by sp

abbrev pub HoleStands : Level → Spot → Forest → Forest → Forest → Forest → Option Spot → Forest → Type 0
HoleStands l s whole old new found sp st = has nobody old ≡ false → (HasSpot sp → IsHoleIn sp s new)

pub hole_stands : (c : ConId) (s : Spot) (f : Forest) → has nobody f ≡ false → HasSpot (spot_in s c f) → IsHoleIn (spot_in s c f) s (holed c f)
hole_stands c s f =
    by_place c in_place hole HoleStands
    (λ l s whole none spot. absurd spot)
    (λ l s whole part kids floats rest none spot. record { there = refl; found = refl; tiled = refl; room = refl })
    (λ l s whole part kids floats rest new found sp st h none spot.
    let n = none_of_four (same part.id nobody) (has nobody kids) (has nobody floats) (has nobody rest) none in
    let k = h n.1 spot in
    record { there = rw (n.0, k.there) refl; found = rw (n.0, k.there) k.found; tiled = rw (n.0, k.there) k.tiled; room = rw (n.0, k.there) k.room })
    (λ l s whole part kids floats rest new found sp st h none spot.
    let n = none_of_four (same part.id nobody) (has nobody kids) (has nobody floats) (has nobody rest) none in
    let k = h n.2 spot in
    record { there = rw (n.0, n.1, k.there) refl; found = rw (n.0, n.1, k.there) k.found; tiled = rw (n.0, n.1, k.there) k.tiled; room = rw (n.0, n.1, k.there) k.room })
    (λ l s whole part kids floats rest new found sp st h none spot.
    let n = none_of_four (same part.id nobody) (has nobody kids) (has nobody floats) (has nobody rest) none in
    let k = h n.3 spot in
    record { there = rw (n.0, n.1, n.2, k.there) refl; found = rw (n.0, n.1, n.2) k.found; tiled = rw (n.0, n.1, n.2) k.tiled; room = rw (n.0, n.1, n.2) k.room })
    containers s f f

-- ---- a node that is neither below what is replaced nor above it

module _ (c i : ConId) (x : Forest) (none : has i x ≡ false) where
  pub record Same (old new : Forest) : Type 0 where
    pub there : has i new ≡ has i old
    pub found : only i new ≡ only i old

  abbrev Stays : Forest → Forest → Forest → Type 0
  Stays old new found = (has c old ≡ false → new ≡ old) × (has i found ≡ false → has c (only i old) ≡ false → Same old new)

  four : (a k l r : Bool) → (a || k || l || r) ≡ false → (k ≡ false) × (l ≡ false) × (r ≡ false)
  four a k l r h = let n = none_of_four a k l r h in (n.1, n.2, n.3)

  -- c is not above i in what is found, or i is not there
  below_kids : (k : Bool) (kids : Forest) → has i kids ≡ k → (k ≡ true → has c (only i kids) ≡ false) → has c (only i kids) ≡ false
  below_kids true kids e h = h refl
  below_kids false kids e h = rw (only_absent i kids e) refl

  kids_stay : (a k : Bool) (part : Part) (kids floats rest new : Forest) → has i kids ≡ k → (has c kids ≡ false → new ≡ kids) → (has c (only i kids) ≡ false → Same kids new)
      → has c (cond a (con part kids floats end) (cond k (only i kids) (cond (has i floats) (only i floats) (only i rest)))) ≡ false
      → ((a || has i new || has i floats || has i rest) ≡ (a || has i kids || has i floats || has i rest))
      × (cond a (con part new floats end) (cond (has i new) (only i new) (cond (has i floats) (only i floats) (only i rest))) ≡ cond a (con part kids floats end) (cond (has i kids) (only i kids) (cond (has i floats) (only i floats) (only i rest))))
  kids_stay true k part kids floats rest new e same_if stay h =
      let q = same_if (four (same part.id c) (has c kids) (has c floats) false h).0 in
      (refl, rw q refl)
  kids_stay false true part kids floats rest new e same_if stay h = let q = stay h in (rw q.there refl, rw (q.there, q.found) refl)
  kids_stay false false part kids floats rest new e same_if stay h = let q = stay (rw (only_absent i kids e) refl) in (rw q.there refl, rw (q.there, q.found) refl)

  floats_stay : (a k m : Bool) (part : Part) (kids floats rest new : Forest) → has i floats ≡ m → (has c floats ≡ false → new ≡ floats) → (has c (only i floats) ≡ false → Same floats new)
      → has c (cond a (con part kids floats end) (cond k (only i kids) (cond m (only i floats) (only i rest)))) ≡ false
      → ((a || k || has i new || has i rest) ≡ (a || k || has i floats || has i rest))
      × (cond a (con part kids new end) (cond k (only i kids) (cond (has i new) (only i new) (only i rest))) ≡ cond a (con part kids floats end) (cond k (only i kids) (cond (has i floats) (only i floats) (only i rest))))
  floats_stay true k m part kids floats rest new e same_if stay h =
      let q = same_if (four (same part.id c) (has c kids) (has c floats) false h).1 in
      (refl, rw q refl)
  floats_stay false true m part kids floats rest new e same_if stay h = (refl, refl)
  floats_stay false false true part kids floats rest new e same_if stay h = let q = stay h in (rw q.there refl, rw (q.there, q.found) refl)
  floats_stay false false false part kids floats rest new e same_if stay h = let q = stay (rw (only_absent i floats e) refl) in (rw q.there refl, rw (q.there, q.found) refl)

  rest_stay : (a k m r : Bool) (part : Part) (kids floats rest new : Forest) → has i rest ≡ r → (has c (only i rest) ≡ false → Same rest new)
      → has c (cond a (con part kids floats end) (cond k (only i kids) (cond m (only i floats) (only i rest)))) ≡ false
      → ((a || k || m || has i new) ≡ (a || k || m || has i rest))
      × (cond a (con part kids floats end) (cond k (only i kids) (cond m (only i floats) (only i new))) ≡ cond a (con part kids floats end) (cond k (only i kids) (cond m (only i floats) (only i rest))))
  rest_stay true k m r part kids floats rest new e stay h = (refl, refl)
  rest_stay false true m r part kids floats rest new e stay h = (refl, refl)
  rest_stay false false true r part kids floats rest new e stay h = (refl, refl)
  rest_stay false false false r part kids floats rest new e stay h = let q = stay h in (q.there, q.found)

  place_stays : (x : Forest) → has i x ≡ false → (part : Part) (kids floats rest : Forest) → has i (con part kids floats end) ≡ false → Same (con part kids floats rest) (in_place x part kids floats rest)
  place_stays end n part kids floats rest h = record { there = refl; found = refl }
  place_stays (con p k l r) n part kids floats rest h =
      let m = none_of_four (same p.id i) (has i k) (has i l) (has i r) n in
      let o = none_of_four (same part.id i) (has i kids) (has i floats) false h in
      record { there = rw (m.0, m.1, m.2, o.0, o.1, o.2) refl; found = rw (m.0, m.1, m.2, o.0, o.1, o.2) refl }

  stays_step : (a k l : Bool) (part : Part) (kids floats rest : Forest) → (has i (only c kids) ≡ false → has c (only i kids) ≡ false → Same kids (replaced c x kids))
      → (has i (only c floats) ≡ false → has c (only i floats) ≡ false → Same floats (replaced c x floats)) → (has i (only c rest) ≡ false → has c (only i rest) ≡ false → Same rest (replaced c x rest))
      → has i (cond a (con part kids floats end) (cond k (only c kids) (cond l (only c floats) (only c rest)))) ≡ false → has c (only i (con part kids floats rest)) ≡ false
      → Same (con part kids floats rest) (cond a (in_place x part kids floats rest) (cond k (con part (replaced c x kids) floats rest) (cond l (con part kids (replaced c x floats) rest) (con part kids floats (replaced c x rest)))))
  stays_step true k l part kids floats rest p q r h n = place_stays x none part kids floats rest h
  stays_step false true l part kids floats rest p q r h n =
      let e = kids_stay (same part.id i) (has i kids) part kids floats rest (replaced c x kids) refl (at_absent c in_place x kids) (p h) n in
      record { there = e.0; found = e.1 }
  stays_step false false true part kids floats rest p q r h n =
      let e = floats_stay (same part.id i) (has i kids) (has i floats) part kids floats rest (replaced c x floats) refl (at_absent c in_place x floats) (q h) n in
      record { there = e.0; found = e.1 }
  stays_step false false false part kids floats rest p q r h n =
      let e = rest_stay (same part.id i) (has i kids) (has i floats) (has i rest) part kids floats rest (replaced c x rest) refl (r h) n in
      record { there = e.0; found = e.1 }

  pub stays : (f : Forest) → has i (only c f) ≡ false → has c (only i f) ≡ false → Same f (replaced c x f)
  stays end h n = record { there = refl; found = refl }
  stays (con part kids floats rest) h n = stays_step (same part.id c) (has c kids) (has c floats) part kids floats rest (stays kids) (stays floats) (stays rest) h n
