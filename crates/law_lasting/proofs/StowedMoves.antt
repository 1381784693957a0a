-- The scratchpad under nodes that move, come and go outside it.
use Rattle.std.proofs.Common.{◌≡◌, ◌≢◌, ℕ, ◌≤◌, Bool, true, false, cond, ◌||◌, Option, None, Some, refl, ap, subst, sym, arith}
use Rattle.wm_base.specs.declared.ids.ConId.{ConId}
use Rattle.law_lasting.proofs.StowedLemmas.{Stowed, lacks_apart, lacks_deep, not_first, stowed_apart, stowed_deep}
use Rattle.law_lasting.specs.Changes.{stows}
use Rattle.law_lasting.specs.Rows.{AreStowed}
use Rattle.wm_tree.proofs.AttachLemmas.{has_row}
use Rattle.wm_forest.proofs.CountLemmas.{counted}
use Rattle.wm_forest.proofs.ForestLemmas.{or_false}
use Rattle.wm_forest.proofs.RecencyLemmas.{same_is, same_self}
use Rattle.wm_forest.specs.Change.{arriving, hole, in_place, nobody, replaced, without}
use Rattle.wm_forest.specs.declared.part.NodeKind.{NodeKind}
use Rattle.wm_forest.specs.declared.part.NodeKind.TheVariants.{Root, Output, Space, Con}
use Rattle.wm_forest.specs.declared.part.Part.{Part}
use Rattle.wm_forest.specs.declared.place.Place.{Place}
use Rattle.wm_forest.specs.declared.place.Place.TheVariants.{After, Before, First, Last, Float, Scratchpad}
use Rattle.wm_forest.specs.declared.spot.Spot.{Spot}
use Rattle.wm_forest.specs.Forest.{Forest, end, con}
use Rattle.wm_forest.specs.Look.{con_kind, first_floats, first_kids, first_part, has, in_row, kind_by, only, same, space_kind}
use Rattle.wm_forest.specs.Exchange.{exchanged_nodes, holed}
use Rattle.wm_tree.specs.Outputs.{IsOutput}
use Rattle.wm_forest.specs.Place.{IsPlace, IsTiled, TakesFirst, TakesKids, is_tiled, named, put, put_word}
use Rattle.wm_forest.specs.SoundRow.{IsNode, IsSoundRow, roots, tally}
use Rattle.wm_tree.specs.Sound.{IsSound}
use Rattle.wm_forest.specs.Spot.{spot_below, spot_in, top}
use Rattle.wm_tree.specs.TreeValue.{TreeValue}
use Rattle.wm_forest.specs.RootId.{root}

-- ---- the root

-- what a node of the row of the root is: the root
root_part : (f : Forest) → IsSoundRow roots false 0 f → in_row root f ≡ true → (Q : Option Part → Type 0) → ((part : Part) (d : ConId) → part.kind ≡ Root d → Q (Some part)) → Q (first_part (only root f))
root_part end p h Q is = cc
root_part (con part kids floats rest) p h Q is = here part.kind refl p.0
  where
    here : (kind : NodeKind) → part.kind ≡ kind → IsNode roots false 0 part.id kind part.marks kids → Q (first_part (only root (con part kids floats rest)))
    here (Root d) e n = let own : same part.id root ≡ true = same_self part.id root n.0 in rw own (is part d e)
    here (Output o) e n = absurd n
    here (Space w) e n = absurd n
    here (Con c) e n = absurd n

-- a node of another kind is not the root
not_root : (c : ConId) (t : TreeValue) → IsSound t → (Q : Option Part → Type 0) → ((part : Part) (d : ConId) → part.kind ≡ Root d → Q (Some part) → ⊥) → Q (first_part (only c t.nodes)) → same root c ≡ false
not_root c t s Q never h = by (same root c) refl
  where
    by : (b : Bool) → same root c ≡ b → b ≡ false
    by false e = refl
    by true e =
        let one : root ≡ c = same_is root c e in
        let own : Q (first_part (only root t.nodes)) = subst (λ i. Q (first_part (only i t.nodes))) (sym one) h in
        absurd (root_part t.nodes s.shaped s.rooted (λ o. Q o → ⊥) never own)

pub con_not_root : (c : ConId) (t : TreeValue) → IsSound t → kind_by con_kind (first_part (only c t.nodes)) ≢ None → same root c ≡ false
con_not_root c t s ok = not_root c t s (λ o. kind_by con_kind o ≢ None) (λ part d e q. q (rw e refl)) ok

takes_not_root : (c : ConId) (t : TreeValue) → IsSound t → TakesFirst (first_part (only c t.nodes)) → same root c ≡ false
takes_not_root c t s ok = not_root c t s TakesFirst (λ part d e q. subst TakesKids e q) ok

space_apart : (c : ConId) (t : TreeValue) → IsSound t → kind_by space_kind (first_part (only c t.nodes)) ≢ None → same root c ≡ false
space_apart c t s ok = not_root c t s (λ o. kind_by space_kind o ≢ None) (λ part d e q. q (rw e refl)) ok

pub output_not_root : (o : ConId) (t : TreeValue) → IsSound t → IsOutput o t.nodes → same root o ≡ false
output_not_root o t s out = by (same root o) refl
  where
    twice : (f : Forest) → IsSoundRow roots false 0 f → in_row root (first_kids f) ≡ true → tally root f ≤ 1 → ⊥
    twice end p h once = cc
    twice (con part kids floats rest) p h once = here part.kind p.0
      where
        here : (kind : NodeKind) → IsNode roots false 0 part.id kind part.marks kids → ⊥
        here (Root d) n = let own : cond {A = ℕ} (same part.id root) 1 0 ≡ 1 = ap (λ b. cond {A = ℕ} b 1 0) (same_self part.id root n.0) in omega (arith, own, once, counted root kids (has_row root kids h))
        here (Output q) n = absurd n
        here (Space w) n = absurd n
        here (Con c) n = absurd n

    by : (b : Bool) → same root o ≡ b → b ≡ false
    by false e = refl
    by true e = absurd (twice t.nodes s.shaped (subst (λ i. in_row i (first_kids t.nodes) ≡ true) (sym (same_is root o e)) out) (s.once root))

-- the first node is the root
abbrev pub IsRooted : Forest → Type 0
IsRooted end = Unit {0}
IsRooted (con part kids floats rest) = same part.id root ≡ true

pub first_root : (t : TreeValue) → IsSound t → IsRooted t.nodes
first_root t s = by t.nodes s.shaped
  where
    by : (f : Forest) → IsSoundRow roots false 0 f → IsRooted f
    by end q = tt
    by (con part kids floats rest) q = here part.kind q.0
      where
        here : (kind : NodeKind) → IsNode roots false 0 part.id kind part.marks kids → same part.id root ≡ true
        here (Root d) n = same_self part.id root n.0
        here (Output o) n = absurd n
        here (Space w) n = absurd n
        here (Con c) n = absurd n

pub stowed_sound : (t : TreeValue) → IsSound t → AreStowed (first_floats t.nodes) → Stowed t.nodes
stowed_sound t s p = by t.nodes (first_root t s) p
  where
    by : (f : Forest) → IsRooted f → AreStowed (first_floats f) → Stowed f
    by end q r = tt
    by (con part kids floats rest) q r = (q, r)

-- ---- tiled containers are not in the scratchpad's row

pub none : (i : ConId) (f : Forest) → tally i f ≤ 0 → has i f ≡ false
none i f few = check (has i f) refl
  where
    check : (b : Bool) → has i f ≡ b → b ≡ false
    check false e = refl
    check true e = absurd (omega (arith, few, counted i f e))

-- a node of the row itself is as tiled as the row
row_spot : (n : ConId) (s : Spot) (row : Forest) → in_row n row ≡ true → tally n row ≤ 1 → is_tiled (spot_in s n row) ≡ s.tiled
row_spot n s end h once = cc
row_spot n s (con part kids floats rest) h once = by (same part.id n) refl h (λ k. row_spot n s rest k (omega (arith, once)))
  where
    by : (b : Bool) → same part.id n ≡ b → (b || in_row n rest) ≡ true → (in_row n rest ≡ true → is_tiled (spot_in s n rest) ≡ s.tiled) → is_tiled (spot_in s n (con part kids floats rest)) ≡ s.tiled
    by true e k next = rw e refl
    by false e k next =
        let one : 1 ≤ tally n rest = counted n rest (has_row n rest k) in
        let above : has n kids ≡ false = none n kids (omega (arith, once, one)) in
        let beside : has n floats ≡ false = none n floats (omega (arith, once, one)) in
        rw (e, above, beside) (next k)

pub tiled_apart : (n : ConId) (t : TreeValue) → IsSound t → Stowed t.nodes → IsTiled n t.nodes → in_row n (first_floats t.nodes) ≡ false
tiled_apart n t s p own = by t.nodes (s.once n) p own.1 (con_not_root n t s own.0)
  where
    by : (f : Forest) → tally n f ≤ 1 → Stowed f → is_tiled (spot_in top n f) ≡ true → same root n ≡ false → in_row n (first_floats f) ≡ false
    by end once q tiled low = refl
    by (con part kids floats rest) once q tiled low = check (in_row n floats) refl
      where
        check : (b : Bool) → in_row n floats ≡ b → b ≡ false
        check false e = refl
        check true e =
            let other : same part.id n ≡ false = not_first part.id n q.0 low in
            let here : has n floats ≡ true = has_row n floats e in
            let one : 1 ≤ tally n floats = counted n floats here in
            let above : has n kids ≡ false = none n kids (omega (arith, once, one)) in
            let flat : is_tiled (spot_in (spot_below false top part) n floats) ≡ false = row_spot n (spot_below false top part) floats e (omega (arith, once)) in
            let seen : is_tiled (spot_in top n (con part kids floats rest)) ≡ false = rw (other, above, here) flat in
            cc

-- ---- places

-- a change at the place leaves the scratchpad's row alone
abbrev pub IsOutside : Place → Forest → Type 0
IsOutside (After n) f = in_row n (first_floats f) ≡ false
IsOutside (Before n) f = in_row n (first_floats f) ≡ false
IsOutside (First n) f = Unit {0}
IsOutside (Last n) f = Unit {0}
IsOutside (Float w r) f = Unit {0}
IsOutside (Scratchpad r) f = ⊥

pub place_low : (p : Place) (t : TreeValue) → IsSound t → has (named p) t.nodes ≡ true → IsPlace p t.nodes → stows p ≡ false → same root (named p) ≡ false
place_low (After n) t s h fits out = con_not_root n t s (fits h).0
place_low (Before n) t s h fits out = con_not_root n t s (fits h).0
place_low (First n) t s h fits out = takes_not_root n t s (fits h)
place_low (Last n) t s h fits out = takes_not_root n t s (fits h)
place_low (Float w r) t s h fits out = space_apart w t s (fits h)
place_low (Scratchpad r) t s h fits out = cc

pub place_outside : (p : Place) (t : TreeValue) → IsSound t → Stowed t.nodes → has (named p) t.nodes ≡ true → IsPlace p t.nodes → stows p ≡ false → IsOutside p t.nodes
place_outside (After n) t s q h fits out = tiled_apart n t s q (fits h)
place_outside (Before n) t s q h fits out = tiled_apart n t s q (fits h)
place_outside (First n) t s q h fits out = tt
place_outside (Last n) t s q h fits out = tt
place_outside (Float w r) t s q h fits out = tt
place_outside (Scratchpad r) t s q h fits out = cc

pub stowed_put : (p : Place) (row f : Forest) → same root (named p) ≡ false → IsOutside p f → Stowed f → Stowed (put p row f)
stowed_put (After n) row f low out q = stowed_deep n (put_word (After n)) row low f out q
stowed_put (Before n) row f low out q = stowed_deep n (put_word (Before n)) row low f out q
stowed_put (First n) row f low out q = stowed_apart n (put_word (First n)) row low (λ part kids floats rest h r. (h, r)) f q
stowed_put (Last n) row f low out q = stowed_apart n (put_word (Last n)) row low (λ part kids floats rest h r. (h, r)) f q
stowed_put (Float w r) row f low out q = stowed_apart w (put_word (Float w r)) row low (λ part kids floats rest h z. (h, z)) f q
stowed_put (Scratchpad r) row f low out q = absurd out

-- who is not in the scratchpad's row stays out of it
pub lacks_put : (p : Place) (row f : Forest) (v : ConId) → same root (named p) ≡ false → IsOutside p f → Stowed f → in_row v (first_floats f) ≡ false → in_row v (first_floats (put p row f)) ≡ false
lacks_put (After n) row f v low out q h = lacks_deep n (put_word (After n)) row v low f q out h
lacks_put (Before n) row f v low out q h = lacks_deep n (put_word (Before n)) row v low f q out h
lacks_put (First n) row f v low out q h = lacks_apart n (put_word (First n)) row v low (λ part kids floats rest k. k) f q h
lacks_put (Last n) row f v low out q h = lacks_apart n (put_word (Last n)) row v low (λ part kids floats rest k. k) f q h
lacks_put (Float w r) row f v low out q h = lacks_apart w (put_word (Float w r)) row v low (λ part kids floats rest k. k) f q h
lacks_put (Scratchpad r) row f v low out q h = absurd out

-- ---- taking out

pub stowed_without : (c : ConId) (f : Forest) → same root c ≡ false → Stowed f → Stowed (without c f)
stowed_without c f low p = stowed_apart c (λ row part kids floats rest. rest) end low (λ part kids floats rest h r. r) f p

lacks_without : (c v : ConId) (f : Forest) → same root c ≡ false → Stowed f → in_row v (first_floats f) ≡ false → in_row v (first_floats (without c f)) ≡ false
lacks_without c v f low p out = lacks_apart c (λ row part kids floats rest. rest) end v low (λ part kids floats rest h. (or_false (same part.id v) (in_row v rest) h).1) f p out

pub outside_without : (p : Place) (c : ConId) (f : Forest) → same root c ≡ false → Stowed f → IsOutside p f → IsOutside p (without c f)
outside_without (After n) c f low q out = lacks_without c n f low q out
outside_without (Before n) c f low q out = lacks_without c n f low q out
outside_without (First n) c f low q out = tt
outside_without (Last n) c f low q out = tt
outside_without (Float w r) c f low q out = tt
outside_without (Scratchpad r) c f low q out = out

-- ---- exchanging

pub stowed_exchanged : (a b : ConId) (sa sb : ℕ) (away : Bool) (f : Forest) → same root a ≡ false → same root b ≡ false → in_row a (first_floats f) ≡ false → in_row b (first_floats f) ≡ false → in_row nobody (first_floats f) ≡ false → Stowed f
    → Stowed (exchanged_nodes a b sa sb away f)
stowed_exchanged a b sa sb away f low_a low_b out_a out_b out_n p =
    let first : Forest = arriving sb None away (only a f) in
    let with_hole : Stowed (holed a f) = stowed_deep a in_place hole low_a f out_a p in
    let still_b : in_row b (first_floats (holed a f)) ≡ false = lacks_deep a in_place hole b low_a f p out_a out_b in
    let still_n : in_row nobody (first_floats (holed a f)) ≡ false = lacks_deep a in_place hole nobody low_a f p out_a out_n in
    let half : Stowed (replaced b (arriving sb None away (only a f)) (holed a f)) = stowed_deep b in_place first low_b (holed a f) still_b with_hole in
    let half_n : in_row nobody (first_floats (replaced b (arriving sb None away (only a f)) (holed a f))) ≡ false = lacks_deep b in_place first nobody low_b (holed a f) with_hole still_b still_n in
    stowed_deep nobody in_place (arriving sa None away (only b (holed a f))) refl (replaced b first (holed a f)) half_n half

pub nobody_out : (t : TreeValue) → IsSound t → in_row nobody (first_floats t.nodes) ≡ false
nobody_out t s = by t.nodes s.low
  where
    by : (f : Forest) → tally nobody f ≡ 0 → in_row nobody (first_floats f) ≡ false
    by end few = refl
    by (con part kids floats rest) few = check (in_row nobody floats) refl
      where
        check : (b : Bool) → in_row nobody floats ≡ b → b ≡ false
        check false e = refl
        check true e = absurd (omega (arith, few, counted nobody floats (has_row nobody floats e)))
