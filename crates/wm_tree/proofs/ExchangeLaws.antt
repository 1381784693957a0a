-- In an exchange the two containers change parents.
use Rattle.std.proofs.Common.{◌≡◌, ℕ, ◌≤◌, Bool, true, false, cond, ◌||◌, Option, None, refl, ap, ◌∙◌, arith}
use Rattle.std.specs.Prelude.{option_and_then}
use Rattle.wm_base.specs.declared.ids.ConId.{ConId}
use Rattle.wm_forest.specs.declared.part.Part.{Part}
use Rattle.wm_forest.specs.declared.spot.Spot.{Spot}
use Rattle.wm_forest.specs.Forest.{Forest, end, con}
use Rattle.wm_forest.specs.Change.{arriving, hole, in_place, nobody, replaced}
use Rattle.wm_forest.specs.Look.{has, only, same}
use Rattle.wm_tree.specs.Move.{apart, exchanged, share_in}
use Rattle.wm_forest.specs.Exchange.{exchanged_nodes, holed}
use Rattle.wm_forest.specs.SoundRow.{Level, containers, one_of, tally}
use Rattle.wm_tree.specs.Sound.{IsSound}
use Rattle.wm_forest.specs.Spot.{spot_in, top}
use Rattle.wm_tree.specs.TreeValue.{TreeValue, parent}
use Rattle.wm_forest.proofs.ChangeLemmas.{by_place}
use Rattle.wm_forest.proofs.CountLemmas.{found_counted, tally-absent}
use Rattle.wm_tree.proofs.ExchangeSound.{Apart, Steps, count_filled, found_one, other_than_nobody, seen_any, steps, zero_has}
use Rattle.wm_forest.proofs.LookLemmas.{none_of_four}
use Rattle.wm_tree.proofs.MoveLemmas.{count-arriving, row_length-arriving}
use Rattle.wm_forest.proofs.StandLemmas.{HasSpot, has_spot}

-- what holds the node that stands there
abbrev pub held_by : Option Spot → Option ConId
held_by o = option_and_then (λ (s : Spot). s.holder) o

-- the first node of the row is i
abbrev Leads : ConId → Forest → Type 0
Leads i end = ⊥
Leads i (con part kids floats rest) = same part.id i ≡ true

abbrev Placed : ConId → Level → Spot → Forest → Forest → Forest → Forest → Option Spot → Forest → Type 0
Placed i l s whole old new found sp st = has i old ≡ false → HasSpot sp → (has i new ≡ true) × (held_by (spot_in s i new) ≡ held_by sp)

-- a node that comes to the place of c has the parent of c
placed_stands : (c i : ConId) (x : Forest) (s : Spot) (f : Forest) → Leads i x → has i f ≡ false → HasSpot (spot_in s c f)
    → (has i (replaced c x f) ≡ true) × (held_by (spot_in s i (replaced c x f)) ≡ held_by (spot_in s c f))
placed_stands c i end s f lead none spot = absurd lead
placed_stands c i (con node below above behind) s f lead none spot =
    by_place c in_place (con node below above behind) (Placed i)
    (λ l s whole none spot. absurd spot)
    (λ l s whole part kids floats rest none spot. rw lead (refl, refl))
    (λ l s whole part kids floats rest new found sp st h none spot.
    let n = none_of_four (same part.id i) (has i kids) (has i floats) (has i rest) none in
    let k = h n.1 spot in
    (rw (n.0, k.0) refl, rw (n.0, k.0) k.1))
    (λ l s whole part kids floats rest new found sp st h none spot.
    let n = none_of_four (same part.id i) (has i kids) (has i floats) (has i rest) none in
    let k = h n.2 spot in
    (rw (n.0, n.1, k.0) refl, rw (n.0, n.1, k.0) k.1))
    (λ l s whole part kids floats rest new found sp st h none spot.
    let n = none_of_four (same part.id i) (has i kids) (has i floats) (has i rest) none in
    let k = h n.3 spot in
    (rw (n.0, n.1, n.2, k.0) refl, rw (n.0, n.1, n.2) k.1))
    containers s f f none spot

lead_step : (c : ConId) (a k l r : Bool) (part : Part) (kids floats rest : Forest) → same part.id c ≡ a → (k ≡ true → Leads c (only c kids)) → (l ≡ true → Leads c (only c floats))
    → (r ≡ true → Leads c (only c rest)) → (a || k || l || r) ≡ true → Leads c (cond a (con part kids floats end) (cond k (only c kids) (cond l (only c floats) (only c rest))))
lead_step c true k l r part kids floats rest e p q s h = e
lead_step c false true l r part kids floats rest e p q s h = p refl
lead_step c false false true r part kids floats rest e p q s h = q refl
lead_step c false false false r part kids floats rest e p q s h = s h

leads_found : (c : ConId) (f : Forest) → has c f ≡ true → Leads c (only c f)
leads_found c end h = absurd (cc)
leads_found c (con part kids floats rest) h =
    lead_step c (same part.id c) (has c kids) (has c floats) (has c rest) part kids floats rest refl (leads_found c kids) (leads_found c floats) (leads_found c rest) h

leads_arriving : (c : ConId) (share : ℕ) (away : Bool) (f : Forest) → Leads c f → Leads c (arriving share None away f)
leads_arriving c share away end h = absurd h
leads_arriving c share true (con part kids floats rest) h = h
leads_arriving c share false (con part kids floats rest) h = h

-- the two change parents
parents : (a b : ConId) (sa sb : ℕ) (away : Bool) (f : Forest) → ((i : ConId) → tally i f ≤ 1) → Apart a b f → Steps a b sa sb away f
    → (held_by (spot_in top a (exchanged_nodes a b sa sb away f)) ≡ held_by (spot_in top b f)) × (held_by (spot_in top b (exchanged_nodes a b sa sb away f)) ≡ held_by (spot_in top a f))
parents a b sa sb away f once p q =
    let x : Forest = arriving sb None away (only a f) in
    let y : Forest = arriving sa None away (only b (holed a f)) in
    let g : Forest = replaced b x (holed a f) in
    let x_one = row_length-arriving sb None away (only a f) ∙ found_one a f p.first in
    let y_one = row_length-arriving sa None away (only b (holed a f)) ∙ found_one b (holed a f) q.b_there in
    let no_a : has a hole ≡ false = other_than_nobody a f p.none p.first in
    let no_b : has b hole ≡ false = other_than_nobody b f p.none p.second in
    let a_gone : has a (holed a f) ≡ false =
    zero_has a (holed a f) (omega (arith, count_filled (one_of a) a hole f p.first refl, found_counted a f p.first, once a, tally-absent a hole no_a)) in
    let a_outside : has a (only b (holed a f)) ≡ false = ap (λ z. has a z) q.b_same ∙ p.inside in
    let y_no_a : has a y ≡ false =
    zero_has a y (omega (arith, tally-absent a (only b (holed a f)) a_outside, count-arriving (one_of a) sa None (λ part. refl) (λ part. refl) away (only b (holed a f)))) in
    let b_gone : has b g ≡ false =
    zero_has b g (omega (
      arith,
      count_filled (one_of b) b x (holed a f) q.b_there x_one,
      count_filled (one_of b) a hole f p.first refl,
      found_counted b (holed a f) q.b_there,
      once b,
      tally-absent b hole no_b,
      tally-absent b (only a f) p.outside,
      count-arriving (one_of b) sb None (λ part. refl) (λ part. refl) away (only a f),
    )) in
    let a_there = placed_stands b a x top (holed a f) (leads_arriving a sb away (only a f) (leads_found a f p.first)) a_gone (has_spot b top (holed a f) q.b_there) in
    let b_there = placed_stands nobody b y top g (leads_arriving b sa away (only b (holed a f)) (leads_found b (holed a f) q.b_there)) b_gone (has_spot nobody top g q.hole_there) in
    let hole_there = placed_stands a nobody hole top f refl p.none (has_spot a top f p.first) in
    let a_seen = seen_any nobody a top y g y_one y_no_a (ap (λ z. has a z) q.hole_found ∙ no_a) in
    (ap held_by a_seen.spot ∙ a_there.1 ∙ ap held_by q.b_spot, b_there.1 ∙ ap held_by q.hole_spot ∙ hole_there.1)

pub change_parents : (a b : ConId) (t : TreeValue) (new : Forest) → new ≡ (exchanged a b t).nodes → has a t.nodes ≡ true → has b t.nodes ≡ true → has b (only a t.nodes) ≡ false → has a (only b t.nodes) ≡ false → IsSound t
    → (held_by (spot_in top a new) ≡ parent t b) × (held_by (spot_in top b new) ≡ parent t a)
change_parents a b t new e first second outside inside s =
    let p : Apart a b t.nodes = record { first = first; second = second; outside = outside; inside = inside; none = zero_has nobody t.nodes s.low } in
    let sa = share_in a t.nodes in
    let sb = share_in b t.nodes in
    let r = parents a b sa sb (apart t a b) t.nodes s.once p (steps a b sa sb (apart t a b) t.nodes p) in
    rw e r
