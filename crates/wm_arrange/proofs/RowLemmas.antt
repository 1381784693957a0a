-- Going along a row of children.
use Rattle.std.proofs.Common.{◌≡◌, Bool, true, false, ℕ, zero, suc, ◌+◌, ◌≤◌, ◌<◌, List, [], ◌∷◌, ◌++◌, Option, Some, sum, take, drop, append_assoc, refl, ap, ap₂, sym, subst, ◌∙◌, arith, add-one}
use Rattle.std.proofs.lemmas.List.Sums.{sum_by-cons}
use Rattle.wm_base.specs.declared.geometry.Axis.{Axis}
use Rattle.wm_base.specs.declared.geometry.Rect.{Rect}
use Rattle.wm_base.specs.declared.ids.ConId.{ConId}
use Rattle.wm_defs.specs.Cut.{cut}
use Rattle.wm_forest.specs.declared.part.Part.{Part}
use Rattle.wm_forest.specs.Counts.{row_length, share_of, share_sum}
use Rattle.wm_forest.specs.Forest.{Forest, end, con, node_count}
use Rattle.wm_forest.specs.Look.{first_floats, first_kids, first_part, rest_of}
use Rattle.wm_arrange.specs.declared.children.Slots.{Slots}
use Rattle.wm_arrange.specs.declared.children.Slots.TheVariants.{Beside, Alone}
use Rattle.wm_arrange.specs.Areas.{cut_between, shares, side_of, slice_of, some_area}
use Rattle.wm_arrange.specs.Arranged.{alone, beside, kids_parts, row_parts, shown_parts}
use Rattle.wm_arrange.specs.Slots.{IsTiledRow, own_in, parts_from, slot_between}
use Rattle.wm_arrange.specs.Gaps.{gaps, is_first, is_last}
use Rattle.wm_arrange.specs.Scene.{Seen}
use Rattle.wm_base.specs.Rect.{inset}

-- what one turn along the row does
pub record Turn (row : Forest) (part : Part) : Type 0 where
  pub sum : share_sum row ≡ share_of part.kind + share_sum (rest_of row)
  pub kids : IsTiledRow (first_kids row)
  pub few : row_length (first_kids row) ≤ 256
  pub rest : IsTiledRow (rest_of row)
  pub below : node_count (first_kids row) < node_count row
  pub behind : node_count (rest_of row) < node_count row
  pub whole : row ≡ con part (first_kids row) (first_floats row) (rest_of row)

turn_at : (part : Part) (kids floats rest : Forest) → IsTiledRow (con part kids floats rest) → Turn (con part kids floats rest) part
turn_at part kids floats rest (room, t) = record {
  sum = refl;
  kids = (_, t.2);
  few = t.1;
  rest = (room, t.4);
  below = omega arith;
  behind = omega arith;
  whole = refl;
}

pub turn : (row : Forest) (part : Part) → first_part row ≡ Some part → IsTiledRow row → Turn row part
turn end part h t = cc
turn (con p kids floats rest) part h t =
    let same_part : p ≡ part = cc in
    subst (Turn (con p kids floats rest)) same_part (turn_at p kids floats rest t)

pub rest_fewer : (row : Forest) → node_count (rest_of row) ≤ node_count row
rest_fewer end = omega arith
rest_fewer (con part kids floats rest) = omega arith

-- ---- the parts told by sums of shares are those told by the shares

sum-shares : (row : Forest) → sum (shares row) ≡ share_sum row
sum-shares end = refl
sum-shares (con part kids floats rest) = omega (arith, sum_by-cons (λ n. n) (share_of part.kind) (shares rest), sum-shares rest)

-- the next item of a list, and the sum with it
pub next_item : (all : List ℕ) (i item : ℕ) (rest : List ℕ) → drop i all ≡ item ∷ rest → (drop (suc i) all ≡ rest) × (sum (take (suc i) all) ≡ sum (take i all) + item)
next_item [] zero item rest h = cc
next_item [] (suc i) item rest h = cc
next_item (x ∷ xs) zero item rest h =
    let first : x ≡ item = cc in
    let left : xs ≡ rest = cc in
    (left, omega (arith, sum_by-cons (λ n. n) x []))
next_item (x ∷ xs) (suc i) item rest h =
    let n = next_item xs i item rest h in
    (n.0, omega (arith, n.1, sum_by-cons (λ n. n) x (take (suc i) xs), sum_by-cons (λ n. n) x (take i xs)))

-- a child's area by its place, and by the sums of the shares
pub child : (axis : Axis) (area : Rect) (kids : Forest) (i after : ℕ) → sum (take (suc i) (shares kids)) ≡ after
    → slice_of axis area (cut (side_of axis area) (shares kids) i) ≡ cut_between axis area (sum (take i (shares kids))) after (share_sum kids)
child axis area kids i after e = rw (add-one, e, sum-shares) refl

pub beside_is : (s : Seen) (axis : Axis) (area : Rect) (kids : Forest) (i : ℕ) (row : Forest) → shares row ≡ drop i (shares kids)
    → parts_from s (Beside axis area (share_sum kids)) (is_first i) (sum (take i (shares kids))) row ≡ row_parts s (beside axis area (shares kids)) i row
beside_is s axis area kids i end left = refl
beside_is s axis area kids i (con part k floats rest) left =
    let item = next_item (shares kids) i (share_of part.kind) (shares rest) (sym left) in
    let next : i + 1 ≡ suc i = omega arith in
    let slots = Beside axis area (share_sum kids) in
    let behind : parts_from s slots false (sum (take i (shares kids)) + share_of part.kind) rest ≡ row_parts s (beside axis area (shares kids)) (i + 1) rest
    = ap (λ b. parts_from s slots false b rest) (sym item.1) ∙ (beside_is s axis area kids (suc i) rest (sym item.0) ∙ ap (λ n. row_parts s (beside axis area (shares kids)) n rest) (sym next)) in
    ap₂ (λ r more. shown_parts s true part k (kids_parts s k) (some_area (inset r (gaps axis s.inner (is_first i) (is_last rest)))) ++ more) (sym (child axis area kids i _ item.1)) behind

pub alone_is : (s : Seen) (area : Option Rect) (chosen : Option ConId) (first : Bool) (before i : ℕ) (row : Forest) → parts_from s (Alone area chosen) first before row ≡ row_parts s (alone area chosen) i row
alone_is s area chosen first before i end = refl
alone_is s area chosen first before i (con part kids floats rest) =
    ap (λ more. shown_parts s false part kids (kids_parts s kids) (slot_between s.inner (Alone area chosen) first (is_last rest) before (before + share_of part.kind) part.id) ++ more)
    (alone_is s area chosen false (before + share_of part.kind) (i + 1) rest)

-- ---- one turn's parts

-- what one turn placed, told by what it found
pub turn_parts : (s : Seen) (slots : Slots) (first : Bool) (before : ℕ) (row : Forest) (part : Part) → Turn row part
    → (own last : Bool) (after : ℕ) (kids rest : Forest) (slot : Option Rect)
    → own ≡ own_in slots → last ≡ is_last rest → after ≡ before + share_of part.kind → kids ≡ first_kids row → rest ≡ rest_of row
    → slot ≡ slot_between s.inner slots first last before after part.id
    → parts_from s slots first before row ≡ shown_parts s own part kids (kids_parts s kids) slot ++ parts_from s slots false after rest
turn_parts s slots first before row part t own last after kids rest slot e1 e2 e3 e4 e5 e6 = rw (e6, e1, e2, e3, e4, e5) (ap (parts_from s slots first before) t.whole)

-- what is added first goes from what is left to what there is
pub along : {X : Type 0} (old new all a b row : List X) → new ≡ old ++ a → row ≡ a ++ b → old ++ row ≡ all → new ++ b ≡ all
along old new all a b row first split kept = ap (λ z. z ++ b) first ∙ (append_assoc old a b ∙ (ap (λ z. old ++ z) (sym split) ∙ kept))
