-- The test whether a place is one of a span.
use Rattle.std.proofs.Common.{◌≡◌, ℕ, ◌≤◌, min, true, false, Bool, ℤ, pos, ◌+ℤ◌, ◌≤ℤ◌, ◌<ℤ◌, arith}
use Rattle.std.specs.Prelude.{◌&&◌}
use Rattle.std.proofs.lemmas.Int.{by_lt_z, ints}
use Rattle.wm_paint.specs.Picture.{in_span}

pub span_has : (s : ℤ) (n : ℕ) (z : ℤ) → s ≤ℤ z → z <ℤ (s +ℤ pos n) → in_span s n z ≡ true
span_has s n z low high = grind (arith, ints)

pub span_later : (s : ℤ) (n : ℕ) (z : ℤ) → z <ℤ s → in_span s n z ≡ false
span_later s n z low = grind (arith, ints)

pub span_earlier : (s : ℤ) (n : ℕ) (z : ℤ) → (s +ℤ pos n) ≤ℤ z → in_span s n z ≡ false
span_earlier s n z high = grind (arith, ints)

pub and_no : (b : Bool) → (b && false) ≡ false
and_no b = grind arith

-- a span of as many places as the shorter of two has
pub span_min : (s : ℤ) (m n : ℕ) (z : ℤ) → in_span s (min m n) z ≡ (in_span s m z && in_span s n z)
span_min s m n z = grind (arith, ints)

-- a longer span has the places of a shorter one
pub span_longer : (s : ℤ) (m n : ℕ) (z : ℤ) → m ≤ n → (in_span s m z && in_span s n z) ≡ in_span s m z
span_longer s m n z le = grind (arith, ints)

span_not : (s : ℤ) (n : ℕ) (z : ℤ) → in_span s n z ≡ true → in_span s n z ≡ false → ⊥
span_not s n z on off = cc

-- where a place of a span lies
pub span_bounds : (s : ℤ) (n : ℕ) (z : ℤ) → in_span s n z ≡ true → (s ≤ℤ z) × (z <ℤ (s +ℤ pos n))
span_bounds s n z on = (by_lt_z z s (λ lt. absurd (span_not s n z on (span_later s n z lt))) (λ le. le), by_lt_z z (s +ℤ pos n) (λ lt. lt) (λ ge. absurd (span_not s n z on (span_earlier s n z ge))))
