-- The last place at which a text may be cut.
use Rattle.std.proofs.Common.{◌≡◌, refl, ℕ, zero, suc, ◌-◌, ◌≤◌, ◌<◌, Bool, true, false, cond, List, length, slice_index, take, nat_le, arith}
use Rattle.std.proofs.lemmas.Bool.Decides.{nat_tests}
use Rattle.std.specs.String.Boundary.{IsSplitPoint}
use Rattle.wm_arrange.specs.TitleText.{cut_place, fitted, goes_on}

begins : (b : ℕ) → (128 ≤ b → 192 ≤ b) → goes_on b ≡ false
begins b h = grind (arith, nat_tests)

continues : (b : ℕ) → ((128 ≤ b → 192 ≤ b) → ⊥) → goes_on b ≡ true
continues b h = grind (arith, nat_tests)

before_it : (n : ℕ) → suc n - 1 ≡ n
before_it n = omega arith

-- a place at which a text may be cut is the last one up to itself
pub place_here : (text : List ℕ) (at : ℕ) → at < length text → IsSplitPoint text at → cut_place text at ≡ at
unfolding cut_place
place_here text zero l s = refl
place_here text (suc n) l s = rw (begins (slice_index text (suc n)) (s.1 (omega arith) l)) refl

-- another place is after the last one up to it
pub place_before : (text : List ℕ) (at : ℕ) → at < length text → (IsSplitPoint text at → ⊥) → cut_place text at ≡ cut_place text (at - 1)
unfolding cut_place
place_before text zero l s = absurd (s (omega (arith, l), λ p. absurd (omega (arith, p))))
place_before text (suc n) l s =
    rw (continues (slice_index text (suc n)) (λ h. s (omega (arith, l), λ p q. h)), before_it n) refl

-- ---- texts of at most 1,024 bytes, and longer ones

chosen : (b : Bool) (x y : List ℕ) → b ≡ true → cond b x y ≡ x
chosen true x y h = refl
chosen false x y h = cc

otherwise : (b : Bool) (x y : List ℕ) → b ≡ false → cond b x y ≡ y
otherwise true x y h = cc
otherwise false x y h = refl

is_within : (n : ℕ) → n ≤ 1024 → nat_le n 1024 ≡ true
is_within n h = grind (arith, nat_tests)

is_longer : (n : ℕ) → 1024 < n → nat_le n 1024 ≡ false
is_longer n h = grind (arith, nat_tests)

pub fits : (text : List ℕ) → length text ≤ 1024 → fitted text ≡ text
unfolding fitted
fits text h = chosen (nat_le (length text) 1024) text (take (cut_place text 1024) text) (is_within (length text) h)

pub cuts : (text : List ℕ) → 1024 < length text → fitted text ≡ take (cut_place text 1024) text
unfolding fitted
cuts text h = otherwise (nat_le (length text) 1024) text (take (cut_place text 1024) text) (is_longer (length text) h)
