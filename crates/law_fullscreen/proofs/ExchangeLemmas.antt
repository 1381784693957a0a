-- Two containers that change places leave each workspace at most one fullscreen container.
use Rattle.std.proofs.Common.{◌≡◌, ℕ, ◌+◌, ◌≤◌, Bool, true, false, Option, None, Some, refl, ap, sym, ◌∙◌, subst, arith}
use Rattle.wm_base.specs.declared.ids.ConId.{ConId}
use Rattle.law_fullscreen.proofs.MoveLemmas.{con_no_space, one_space}
use Rattle.law_fullscreen.proofs.RowLemmas.{within-arriving, within-away}
use Rattle.law_fullscreen.proofs.WithinLemmas.{space_free, space_in, within-most, within_swap}
use Rattle.law_fullscreen.proofs.WordLemmas.{single}
use Rattle.law_fullscreen.specs.Fullscreen.{IsSingle, full_of, within}
use Rattle.wm_forest.proofs.ChangeLemmas.{by_place}
use Rattle.wm_forest.proofs.CountLemmas.{count-without}
use Rattle.wm_tree.proofs.ExchangeSound.{Apart, Steps, found_one, steps, zero_has}
use Rattle.wm_forest.proofs.LookLemmas.{none_of_four}
use Rattle.wm_tree.proofs.MoveLemmas.{found_alone, row_length-arriving}
use Rattle.wm_forest.proofs.StandLemmas.{HasSpot, has_spot}
use Rattle.wm_forest.specs.Change.{arriving, hole, in_place, nobody, replaced}
use Rattle.wm_forest.specs.Counts.{row_length}
use Rattle.wm_forest.specs.declared.part.Part.{Part}
use Rattle.wm_forest.specs.declared.spot.Spot.{Spot}
use Rattle.wm_forest.specs.Forest.{Forest, end, con}
use Rattle.wm_forest.specs.Look.{first_part, has, kind_by, only, same, space_kind}
use Rattle.wm_tree.specs.Move.{IsExchange, apart, exchanged, share_in}
use Rattle.wm_forest.specs.Exchange.{exchanged_nodes, holed}
use Rattle.wm_tree.specs.Sound.{IsSound}
use Rattle.wm_forest.specs.SoundRow.{Level, containers, one_of, tally}
use Rattle.wm_forest.specs.Spot.{space_at, spot_in, top}
use Rattle.wm_tree.specs.TreeValue.{TreeValue, workspace_of}

-- ---- a node in the place of another

abbrev IsFree : Option Part → Type 0
IsFree o = kind_by space_kind o ≡ None

-- where what stood there is no workspace, a node in its place counts in the same workspace
within-replaced : (w c : ConId) (node : Forest) (s : Spot) (f : Forest) → row_length node ≡ 1 → IsFree (first_part (only c f))
    → within full_of w s.space (replaced c node f) + within full_of w (space_in (spot_in s c f)) (only c f) ≤ within full_of w s.space f + within full_of w (space_in (spot_in s c f)) node
within-replaced w c end s f one free = absurd (omega (arith, one))
within-replaced w c (con new below above (con q k l r)) s f one free = absurd (omega (arith, one))
within-replaced w c (con new below above end) s f one free = within_swap full_of w c in_place (con new below above end) (con new below above end) IsFree here s f free
  where
    here : (space : Option ConId) (part : Part) (kids floats rest : Forest) → IsFree (Some part)
        → within full_of w space (in_place (con new below above end) part kids floats rest) + within full_of w (space_at space part) (con part kids floats end)
        ≤ within full_of w space (con part kids floats rest) + within full_of w (space_at space part) (con new below above end)
    here space part kids floats rest k =
        let Spaces : Option ConId → Type 0 =
        λ z. within full_of w space (con new below above rest) + within full_of w z (con part kids floats end) ≤ within full_of w space (con part kids floats rest) + within full_of w z (con new below above end) in
        subst Spaces (sym (space_free space part.id part.kind k)) (omega arith)

-- ---- where the hole is

abbrev HoleSpace : Level → Spot → Forest → Forest → Forest → Forest → Option Spot → Forest → Type 0
HoleSpace l s whole old new found sp st = has nobody old ≡ false → IsFree (first_part found) → HasSpot sp → (has nobody new ≡ true) × (space_in (spot_in s nobody new) ≡ space_in sp)

-- the hole stands in the workspace of the node in whose place it is
hole_space : (c : ConId) (s : Spot) (f : Forest) → has nobody f ≡ false → IsFree (first_part (only c f)) → HasSpot (spot_in s c f)
    → (has nobody (holed c f) ≡ true) × (space_in (spot_in s nobody (holed c f)) ≡ space_in (spot_in s c f))
hole_space c s f =
    by_place c in_place hole HoleSpace
    (λ l s whole none free spot. absurd spot)
    (λ l s whole part kids floats rest none free spot. (refl, sym (space_free s.space part.id part.kind free)))
    (λ l s whole part kids floats rest new found sp st h none free spot.
    let n = none_of_four (same part.id nobody) (has nobody kids) (has nobody floats) (has nobody rest) none in
    let k = h n.1 free spot in
    (rw (n.0, k.0) refl, rw (n.0, k.0) k.1))
    (λ l s whole part kids floats rest new found sp st h none free spot.
    let n = none_of_four (same part.id nobody) (has nobody kids) (has nobody floats) (has nobody rest) none in
    let k = h n.2 free spot in
    (rw (n.0, n.1, k.0) refl, rw (n.0, n.1, k.0) k.1))
    (λ l s whole part kids floats rest new found sp st h none free spot.
    let n = none_of_four (same part.id nobody) (has nobody kids) (has nobody floats) (has nobody rest) none in
    let k = h n.3 free spot in
    (rw (n.0, n.1, n.2, k.0) refl, rw (n.0, n.1, n.2) k.1))
    containers s f f

-- ---- the exchange

-- what comes from a to b counts no more in the workspace of b than it did in its own
comes : (w a b : ConId) (share : ℕ) (f : Forest) (va vb : Option ConId) (away : Bool) → (away ≡ false → va ≡ vb) → tally nobody f ≡ 0
    → within full_of w vb (arriving share None away (only a f)) ≤ within full_of w va (only a f)
comes w a b share f va vb true same low = omega (arith, within-away w vb share None (only a f) (found_alone a f) (omega (arith, low, count-without (one_of nobody) a f)))
comes w a b share f va vb false same low =
    let Count : Option ConId → Type 0 = λ z. within full_of w z (arriving share None false (only a f)) ≤ within full_of w va (only a f) in
    subst Count (same refl) (omega (arith, within-arriving w va share None (only a f)))

module _ (w a b : ConId) (sa sb : ℕ) (away : Bool) (f : Forest) (p : Apart a b f) (free_a : IsFree (first_part (only a f))) (free_b : IsFree (first_part (only b f))) (low : tally nobody f ≡ 0)
    (same_ab : away ≡ false → space_in (spot_in top a f) ≡ space_in (spot_in top b f))
  where
    abbrev va : Option ConId
    va = space_in (spot_in top a f)

    abbrev vb : Option ConId
    vb = space_in (spot_in top b f)

    q : Steps a b sa sb away f
    q = steps a b sa sb away f p

    abbrev x : Forest
    x = arriving sb None away (only a f)

    abbrev y : Forest
    y = arriving sa None away (only b (holed a f))

    abbrev g : Forest
    g = replaced b x (holed a f)

    first : within full_of w None (holed a f) + within full_of w va (only a f) ≤ within full_of w None f
    first = omega (arith, within-replaced w a hole top f refl free_a, no_hole)
      where
        no_hole : within full_of w va hole ≡ 0
        no_hole = omega (arith, within-most full_of w va hole)

    second : within full_of w None g + within full_of w vb (only b f) ≤ within full_of w None (holed a f) + within full_of w vb x
    second =
        let Free : Forest → Type 0 = λ z. IsFree (first_part z) in
        let row : row_length x ≡ 1 = row_length-arriving sb None away (only a f) ∙ found_one a f p.first in
        let Spot_of : Option Spot → Type 0 = λ z. within full_of w None g + within full_of w (space_in z) (only b (holed a f)) ≤ within full_of w None (holed a f) + within full_of w (space_in z) x in
        let Found : Forest → Type 0 = λ z. within full_of w None g + within full_of w vb z ≤ within full_of w None (holed a f) + within full_of w vb x in
        subst Found q.b_same (subst Spot_of q.b_spot (within-replaced w b x top (holed a f) row (subst Free (sym q.b_same) free_b)))

    third : within full_of w None (replaced nobody y g) ≤ within full_of w None g + within full_of w va y
    third =
        let Free : Forest → Type 0 = λ z. IsFree (first_part z) in
        let row : row_length y ≡ 1 = row_length-arriving sa None away (only b (holed a f)) ∙ found_one b (holed a f) q.b_there in
        let at : space_in (spot_in top nobody g) ≡ va = ap space_in q.hole_spot ∙ (hole_space a top f p.none free_a (has_spot a top f p.first)).1 in
        let all = within-replaced w nobody y top g row (subst Free (sym q.hole_found) refl) in
        let Space_of : Option ConId → Type 0 = λ z. within full_of w None (replaced nobody y g) + within full_of w z (only nobody g) ≤ within full_of w None g + within full_of w z y in
        omega (arith, subst Space_of at all)

    exchange_most : within full_of w None (exchanged_nodes a b sa sb away f) ≤ within full_of w None f
    exchange_most =
        let back : within full_of w va y ≤ within full_of w vb (only b f) =
        (let Found : Forest → Type 0 = λ z. within full_of w va (arriving sa None away z) ≤ within full_of w vb (only b f) in
        subst Found (sym q.b_same) (comes w b a sa f vb va away (λ e. sym (same_ab e)) low)) in
        omega (arith, first, second, third, back, comes w a b sb f va vb away same_ab low)

pub one_exchanged : (a b : ConId) (t : TreeValue) → IsSound t → has a t.nodes ≡ true → has b t.nodes ≡ true → IsExchange a b t.nodes → IsSingle t.nodes → IsSingle (exchanged a b t).nodes
one_exchanged a b t s here there ok =
    let f : Forest = t.nodes in
    let p : Apart a b f = record { first = here; second = there; outside = ok.2; inside = ok.3; none = zero_has nobody f s.low } in
    single f (exchanged a b t).nodes
    (λ w.
    exchange_most w a b (share_in a f) (share_in b f) (apart t a b) f p (con_no_space (first_part (only a f)) (ok.0 here).0) (con_no_space (first_part (only b f)) (ok.1 there).0) s.low
    (one_space (workspace_of t a) (workspace_of t b)))
