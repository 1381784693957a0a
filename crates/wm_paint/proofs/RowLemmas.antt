-- Filling columns and rows of pixels that stand row by row.
use Rattle.std.proofs.Common.{◌≡◌, ℕ, ◌+◌, ◌-◌, ◌*◌, ◌/◌, ◌%◌, ◌<◌, ◌≤◌, true, false, Bool, List, length, get_or, take, drop, sym, ap, ◌∙◌, arith, inl, inr, replicate, ℤ, pos, ◌+ℤ◌, ◌≤ℤ◌, ◌<ℤ◌}
use Rattle.std.specs.Prelude.{if◌then◌else◌, ◌&&◌}
use Rattle.std.proofs.Math.Nat.{mod-add-div}
use Rattle.std.proofs.lemmas.Bool.{cases_lt}
use Rattle.std.proofs.lemmas.Bool.Decides.{nat_tests}
use Rattle.std.proofs.lemmas.List.{length-take, length-replicate, get_or-replicate, get_or_append_left, get_or-append_right, get_or-take, get_or-drop}
use Rattle.std.proofs.lemmas.Int.{by_lt_z, ints}
use Rattle.std.proofs.lemmas.Nat.{row_fits, mod_below}
use borrow.Rule.Slice.PartMut.{put_mid}
use Rattle.wm_base.specs.declared.ids.Ink.{Ink}
use Rattle.wm_paint.specs.Picture.{black, in_span}
use Rattle.wm_paint.specs.Rows.{in_box, in_range}
use Rattle.wm_paint.proofs.SpanLemmas.{span_has, span_later, span_earlier}

pub range_has : (first end i : ℕ) → first ≤ i → i < end → in_range first end i ≡ true
range_has first end i low high = grind (arith, nat_tests)

pub range_later : (first end i : ℕ) → i < first → in_range first end i ≡ false
range_later first end i low = grind (arith, nat_tests)

pub range_earlier : (first end i : ℕ) → end ≤ i → in_range first end i ≡ false
range_earlier first end i high = grind (arith, nat_tests)

-- one place more changes nothing for any other place
range_more : (first end i : ℕ) → (i ≡ end → ⊥) → in_range first (end + 1) i ≡ in_range first end i
range_more first end i other = grind (arith, nat_tests)

-- ---- a part of a list that is filled

fill_below : (a n k : ℕ) (xs ys : List Ink) (d : Ink) → a ≤ length xs → k < a → get_or (put_mid a n xs ys) k d ≡ get_or xs k d
fill_below a n k xs ys d le lt =
    get_or_append_left (take a xs) _ d k (omega (arith, length-take a xs)) ∙ get_or-take a xs k d lt

fill_above : (a n k : ℕ) (xs ys : List Ink) (d : Ink) → a + n ≤ length xs → length ys ≡ n → a + n ≤ k → get_or (put_mid a n xs ys) k d ≡ get_or xs k d
fill_above a n k xs ys d le is ge =
    get_or-append_right (take a xs) _ a k d (omega (arith, length-take a xs)) (omega arith)
    ∙ (get_or-append_right ys _ n (k - a) d is (omega arith)
    ∙ (get_or-drop n (drop a xs) (k - a - n) d
    ∙ (get_or-drop a xs (n + (k - a - n)) d
    ∙ ap (λ (i : ℕ). get_or xs i d) (omega arith))))

fill_within : (a n k : ℕ) (xs : List Ink) (ink d : Ink) → a + n ≤ length xs → a ≤ k → k < a + n → get_or (put_mid a n xs (replicate n ink)) k d ≡ ink
fill_within a n k xs ink d le ge lt =
    get_or-append_right (take a xs) _ a k d (omega (arith, length-take a xs)) ge
    ∙ (get_or_append_left (replicate n ink) _ d (k - a) (omega (arith, length-replicate n ink))
    ∙ get_or-replicate n (k - a) ink d (omega arith))

-- ---- one row more

-- what the pixel k is after the rows before `row`, or those up to `bottom`
abbrev pub Filled : ℕ → ℕ → ℕ → ℕ → ℕ → Ink → List Ink → List Ink → ℕ → Type 0
Filled w left right top bottom ink old new k = get_or new k black ≡ (if in_box w left right top bottom k then ink else get_or old k black)

other_row : (w left right top row k : ℕ) (ink : Ink) (old now new : List Ink) → (k / w ≡ row → ⊥) → get_or new k black ≡ get_or now k black → Filled w left right top row ink old now k → Filled w left right top (row + 1) ink old new k
other_row w left right top row k ink old now new other same kept =
    same ∙ (kept ∙ ap (λ (b : Bool). if in_range left right (k % w) && b then ink else get_or old k black) (sym (range_more top row (k / w) other)))

outside_columns : (w left right top row k : ℕ) (ink : Ink) (old now new : List Ink) → in_range left right (k % w) ≡ false → get_or new k black ≡ get_or now k black → Filled w left right top row ink old now k → Filled w left right top (row + 1) ink old new k
outside_columns w left right top row k ink old now new off same kept =
    rw off (same ∙ (kept ∙ ap (λ (b : Bool). if b && in_range top row (k / w) then ink else get_or old k black) off))

this_row : (w left right top row k : ℕ) (ink : Ink) (old new : List Ink) → in_range left right (k % w) ≡ true → top ≤ k / w → k / w ≡ row → get_or new k black ≡ ink → Filled w left right top (row + 1) ink old new k
this_row w left right top row k ink old new on le is painted = rw (on, range_has top (row + 1) (k / w) le (omega arith)) painted

-- the columns of the row are filled
pub row_step : (w left right top row n k : ℕ) (ink : Ink) (old now : List Ink) → 1 ≤ w → left ≤ right → right ≤ w → top ≤ row → row * w + right ≤ length now → n ≡ right - left → Filled w left right top row ink old now k → Filled w left right top (row + 1) ink old (put_mid (row * w + left) n now (replicate n ink)) k
row_step w left right top row n k ink old now some order within reached fits is kept =
    let parts : k % w + w * (k / w) ≡ k = mod-add-div k w in
    let column : k % w < w = mod_below k w (omega arith) in
    let new : List Ink = put_mid (row * w + left) n now (replicate n ink) in
    elim (cases_lt (k / w) row) [
      | inl before ↦
          let fewer : k / w * w + w ≤ row * w = row_fits (k / w) w row w before (omega arith) in
          other_row w left right top row k ink old now new (λ e. omega arith) (fill_below (row * w + left) n k now (replicate n ink) black (omega arith) (omega arith)) kept
      | inr from ↦ elim (cases_lt row (k / w)) [
        | inl behind ↦
            let more : row * w + w ≤ k / w * w = row_fits row w (k / w) w behind (omega arith) in
            other_row w left right top row k ink old now new (λ e. omega arith) (fill_above (row * w + left) n k now (replicate n ink) black (omega arith) (length-replicate n ink) (omega arith)) kept
        | inr upto ↦
            let here : k / w ≡ row = omega arith in
            let at : k ≡ row * w + k % w = rw (← here) (omega arith) in
            elim (cases_lt (k % w) left) [
              | inl earlier ↦ outside_columns w left right top row k ink old now new (range_later left right (k % w) earlier) (fill_below (row * w + left) n k now (replicate n ink) black (omega arith) (omega arith)) kept
              | inr not_earlier ↦ elim (cases_lt (k % w) right) [
                | inl in_columns ↦ this_row w left right top row k ink old new (range_has left right (k % w) not_earlier in_columns) (omega arith) here (fill_within (row * w + left) n k now ink black (omega arith) (omega arith) (omega arith))
                | inr later ↦ outside_columns w left right top row k ink old now new (range_earlier left right (k % w) later) (fill_above (row * w + left) n k now (replicate n ink) black (omega arith) (length-replicate n ink) (omega arith)) kept
              ]
            ]
      ]
    ]

-- ---- the places of a span among those from `from` on

pub span_range : (start : ℤ) (n : ℕ) (from : ℤ) (first end i : ℕ) → (start ≤ℤ (from +ℤ pos i) → first ≤ i) → ((from +ℤ pos i) <ℤ start → i < first) → ((from +ℤ pos i) <ℤ (start +ℤ pos n) → i < end) → ((start +ℤ pos n) ≤ℤ (from +ℤ pos i) → end ≤ i) → in_span start n (from +ℤ pos i) ≡ in_range first end i
span_range start n from first end i low before high behind =
    by_lt_z (from +ℤ pos i) start
    (λ lt. span_later start n (from +ℤ pos i) lt ∙ sym (range_later first end i (before lt)))
    (λ le. by_lt_z (from +ℤ pos i) (start +ℤ pos n)
    (λ lt. span_has start n (from +ℤ pos i) le lt ∙ sym (range_has first end i (low le) (high lt)))
    (λ ge. span_earlier start n (from +ℤ pos i) ge ∙ sym (range_earlier first end i (behind ge))))

-- ---- the nearest number from 0 to `most`

pub record IsHeld (g : ℤ) (most r : ℕ) : Type 0 where
  pub within : r ≤ most
  pub below : g <ℤ pos 0 → r ≡ 0
  pub same : pos 0 ≤ℤ g → g ≤ℤ pos most → pos r ≡ g
  pub above : pos most <ℤ g → r ≡ most

pub held_low : (g : ℤ) (most r i : ℕ) → IsHeld g most r → i < most → g ≤ℤ pos i → r ≤ i
held_low g most r i held lt le =
    by_lt_z g (pos 0)
    (λ less. omega (arith, held.below less))
    (λ more. omega (arith, ints, held.same more (omega (arith, ints))))

pub held_high : (g : ℤ) (most r i : ℕ) → IsHeld g most r → i < most → pos i <ℤ g → i < r
held_high g most r i held lt le =
    by_lt_z (pos most) g
    (λ more. omega (arith, held.above more))
    (λ less. omega (arith, ints, held.same (omega (arith, ints)) less))

pub held_ordered : (g h : ℤ) (most r t : ℕ) → IsHeld g most r → IsHeld h most t → g ≤ℤ h → r ≤ t
held_ordered g h most r t one two le =
    by_lt_z g (pos 0)
    (λ less. omega (arith, one.below less))
    (λ more. by_lt_z (pos most) h
    (λ far. omega (arith, one.within, two.above far))
    (λ near. omega (arith, ints, one.same more (omega (arith, ints)), two.same (omega (arith, ints)) near)))
