-- Strips of an area along an axis, and the pixels that they have.
use Rattle.std.proofs.Common.{◌≡◌, ℕ, ◌+◌, ◌-◌, ◌≤◌, Bool, true, false, ◌&&◌, ℤ, pos, ◌+ℤ◌, ◌≤ℤ◌, ◌<ℤ◌, refl, arith}
use Rattle.std.proofs.lemmas.Bool.Decides.{nat_tests}
use Rattle.std.proofs.lemmas.Int.{by_lt_z, ints}
use Rattle.std.proofs.lemmas.Bool.{and_from, and_parts}
use Rattle.std.specs.Prelude.{◌↔◌}
use Rattle.wm_base.specs.declared.geometry.Axis.{Axis}
use Rattle.wm_base.specs.declared.geometry.Axis.TheVariants.{Across, Down}
use Rattle.wm_base.specs.declared.geometry.Rect.{Rect}
use Rattle.wm_base.specs.Rect.{HasPixel, InSpan, inset}
use Rattle.wm_arrange.specs.Areas.{side_of, slice_of}
use Rattle.wm_arrange.specs.Cover.{has_pixel, in_span, one_if}
use Rattle.wm_arrange.specs.Gaps.{gap_after, gap_before, gaps}

-- ---- spans

-- a span without places has none
pub no_place : (s z : ℤ) → in_span s 0 z ≡ false
no_place s z = grind (arith, ints, nat_tests)

-- a span is its places up to one and those from there on
two_spans : (s : ℤ) (a b c : ℕ) (z : ℤ) → a ≤ b → b ≤ c → one_if (in_span (s +ℤ pos a) (b - a) z) + one_if (in_span (s +ℤ pos b) (c - b) z) ≡ one_if (in_span (s +ℤ pos a) (c - a) z)
two_spans s a b c z p q = grind (arith, ints, nat_tests)

pub and_false : (b : Bool) → (b && false) ≡ false
and_false true = refl
and_false false = refl

-- the part of an area from one place to another along an axis
abbrev pub strip : Axis → Rect → ℕ → ℕ → Rect
strip axis area a b = slice_of axis area (a, b - a)

pub no_strip : (axis : Axis) (area : Rect) (a : ℕ) (x y : ℤ) → has_pixel x y (strip axis area a a) ≡ false
no_strip Across area a x y = let none : a - a ≡ 0 = omega arith in rw (none, no_place) refl
no_strip Down area a x y = let none : a - a ≡ 0 = omega arith in rw (none, no_place, and_false) refl

one_of_two : (b : Bool) (m n k : Bool) → one_if m + one_if n ≡ one_if k → one_if (m && b) + one_if (n && b) ≡ one_if (k && b)
one_of_two true m n k h = rw (and_true m, and_true n, and_true k) h
  where
    and_true : (c : Bool) → (c && true) ≡ c
    and_true true = refl
    and_true false = refl
one_of_two false m n k h = rw (and_false m, and_false n, and_false k) refl

two_after : (b : Bool) (m n k : Bool) → one_if m + one_if n ≡ one_if k → one_if (b && m) + one_if (b && n) ≡ one_if (b && k)
two_after true m n k h = h
two_after false m n k h = refl

pub two_strips : (axis : Axis) (area : Rect) (a b c : ℕ) (x y : ℤ) → a ≤ b → b ≤ c
    → one_if (has_pixel x y (strip axis area a b)) + one_if (has_pixel x y (strip axis area b c)) ≡ one_if (has_pixel x y (strip axis area a c))
two_strips Across area a b c x y p q = one_of_two (in_span area.y area.h y) _ _ _ (two_spans area.x a b c x p q)
two_strips Down area a b c x y p q = two_after (in_span area.x area.w x) _ _ _ (two_spans area.y a b c y p q)

plus_zero : (z : ℤ) → z +ℤ pos 0 ≡ z
plus_zero z = omega (arith, ints)

-- all of it
pub whole_strip : (axis : Axis) (area : Rect) → strip axis area 0 (side_of axis area) ≡ area
whole_strip Across area = let n : area.w - 0 ≡ area.w = omega arith in rw (plus_zero area.x, n) refl
whole_strip Down area = let n : area.h - 0 ≡ area.h = omega arith in rw (plus_zero area.y, n) refl

-- ---- no gaps

no_before : (first : Bool) → gap_before 0 first ≡ 0
no_before true = refl
no_before false = refl

no_after : (last : Bool) → gap_after 0 last ≡ 0
no_after true = refl
no_after false = refl

pub no_gaps : (axis : Axis) (r : Rect) (first last : Bool) → inset r (gaps axis 0 first last) ≡ r
no_gaps Across r first last =
    let w : r.w - (0 + 0) ≡ r.w = omega arith in
    let h : r.h - (0 + 0) ≡ r.h = omega arith in
    rw (no_before first, no_after last, plus_zero r.x, plus_zero r.y, w, h) refl
no_gaps Down r first last =
    let w : r.w - (0 + 0) ≡ r.w = omega arith in
    let h : r.h - (0 + 0) ≡ r.h = omega arith in
    rw (no_before first, no_after last, plus_zero r.x, plus_zero r.y, w, h) refl

-- ---- pixels

span_has : (s : ℤ) (n : ℕ) (z : ℤ) → InSpan s n z → in_span s n z ≡ true
span_has s n z h = let low = h.0 in let high = h.1 in grind (arith, ints)

span_later : (s : ℤ) (n : ℕ) (z : ℤ) → z <ℤ s → in_span s n z ≡ false
span_later s n z low = grind (arith, ints)

span_earlier : (s : ℤ) (n : ℕ) (z : ℤ) → (s +ℤ pos n) ≤ℤ z → in_span s n z ≡ false
span_earlier s n z high = grind (arith, ints)

span_not : (s : ℤ) (n : ℕ) (z : ℤ) → in_span s n z ≡ true → in_span s n z ≡ false → ⊥
span_not s n z on off = cc

in_bounds : (s : ℤ) (n : ℕ) (z : ℤ) → in_span s n z ≡ true → InSpan s n z
in_bounds s n z on = (by_lt_z z s (λ lt. absurd (span_not s n z on (span_later s n z lt))) (λ le. le), by_lt_z z (s +ℤ pos n) (λ lt. lt) (λ ge. absurd (span_not s n z on (span_earlier s n z ge))))

-- the test tells whether a rectangle has a pixel
pub pixel_told : (r : Rect) (x y : ℤ) → has_pixel x y r ≡ true ↔ HasPixel r x y
pixel_told r x y = (
  λ on.
      let parts = and_parts (in_span r.x r.w x) (in_span r.y r.h y) on in
      (in_bounds r.x r.w x parts.0, in_bounds r.y r.h y parts.1),
  λ has. and_from (in_span r.x r.w x) (in_span r.y r.h y) (span_has r.x r.w x has.0) (span_has r.y r.h y has.1),
)
