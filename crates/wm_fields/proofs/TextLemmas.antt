-- Texts that are UTF-8, or are not.
use Rattle.std.proofs.Common.{◌≡◌, refl, ℕ, List, None, Some, Bool, true, false, leb, length, ◌≤◌, ◌<◌, ⊎_elim, arith}
use Rattle.std.specs.Str.{is_utf8, IsUtf8}
use Rattle.std.proofs.lemmas.Bool.Decides.{leb_tells}
use Rattle.std.proofs.lemmas.Str.{IsUtf8-from_is_utf8, is_utf8-from_IsUtf8}
use Rattle.wm_fields.specs.Quoted.{short_text, text_within}

-- bytes that are no UTF-8
pub not_utf8 : (bytes : List ℕ) → (IsUtf8 bytes → ⊥) → is_utf8 bytes ≡ false
not_utf8 bytes bad = by_test (is_utf8 bytes) refl
  where
    by_test : (b : Bool) → is_utf8 bytes ≡ b → b ≡ false
    by_test false e = refl
    by_test true e = absurd (bad (IsUtf8-from_is_utf8 bytes e))

at_most : (a b : ℕ) → a ≤ b → leb a b ≡ true
at_most a b h = ⊎_elim (λ p. p.0) (λ p. absurd (omega (arith, p.1, h))) (leb_tells a b)

more_than : (a b : ℕ) → b < a → leb a b ≡ false
more_than a b h = ⊎_elim (λ p. absurd (omega (arith, p.1, h))) (λ p. p.0) (leb_tells a b)

-- a text of these bytes is taken where they are UTF-8, and no more than a limit
pub is_within : (most : ℕ) (bytes : List ℕ) → IsUtf8 bytes → length bytes ≤ most → text_within most bytes ≡ Some bytes
is_within most bytes text short = rw (is_utf8-from_IsUtf8 bytes text, at_most (length bytes) most short) refl

pub is_longer : (most : ℕ) (bytes : List ℕ) → IsUtf8 bytes → most < length bytes → text_within most bytes ≡ None
is_longer most bytes text long = rw (is_utf8-from_IsUtf8 bytes text, more_than (length bytes) most long) refl

pub is_none_within : (most : ℕ) (bytes : List ℕ) → (IsUtf8 bytes → ⊥) → text_within most bytes ≡ None
is_none_within most bytes bad = rw (not_utf8 bytes bad) refl

-- a quoted text is taken where it is UTF-8 and short
pub is_short : (bytes : List ℕ) → IsUtf8 bytes → length bytes ≤ 1024 → short_text bytes ≡ Some bytes
is_short bytes text short = rw (is_utf8-from_IsUtf8 bytes text, at_most (length bytes) 1024 short) refl

pub is_no_text : (bytes : List ℕ) → (IsUtf8 bytes → ⊥) → short_text bytes ≡ None
is_no_text bytes bad = rw (not_utf8 bytes bad) refl
