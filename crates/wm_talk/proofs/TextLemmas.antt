-- Bytes that are texts, or are not.
use Rattle.std.proofs.Common.{◌≡◌, refl, ℕ, List, [], ◌∷◌, None, Some, Bool, true, false, leb, length, ◌≤◌, ◌<◌, ⊎_elim, arith}
use Rattle.std.specs.Str.{is_utf8, IsUtf8}
use Rattle.std.proofs.lemmas.Bool.Decides.{leb_tells}
use Rattle.std.proofs.lemmas.Str.{IsUtf8-from_is_utf8, is_utf8-from_IsUtf8}
use Rattle.std.specs.Str.Lossy.{utf8_valid_len}
use Rattle.wm_json.specs.declared.replies.Reply.TheVariants as reply
use Rattle.wm_talk.specs.Calls.{text_of, tick_of}
use Rattle.wm_talk.specs.Told.{replies_of, replies_to}
use Rattle.wm_talk.specs.declared.got.Got.{Got}

-- bytes that are no UTF-8
pub not_utf8 : (bytes : List ℕ) → (IsUtf8 bytes → ⊥) → is_utf8 bytes ≡ false
not_utf8 bytes bad = by_test (is_utf8 bytes) refl
  where
    by_test : (b : Bool) → is_utf8 bytes ≡ b → b ≡ false
    by_test false e = refl
    by_test true e = absurd (bad (IsUtf8-from_is_utf8 bytes e))

at_most : (a b : ℕ) → a ≤ b → leb a b ≡ true
at_most a b h = ⊎_elim (λ p. p.0) (λ p. absurd (omega (arith, p.1, h))) (leb_tells a b)

more_than : (a b : ℕ) → b < a → leb a b ≡ false
more_than a b h = ⊎_elim (λ p. absurd (omega (arith, p.1, h))) (λ p. p.0) (leb_tells a b)

pub is_text : (bytes : List ℕ) → IsUtf8 bytes → text_of bytes ≡ Some bytes
is_text bytes text = rw (is_utf8-from_IsUtf8 bytes text) refl

pub is_no_text : (bytes : List ℕ) → (IsUtf8 bytes → ⊥) → text_of bytes ≡ None
is_no_text bytes bad = rw (not_utf8 bytes bad) refl

pub is_tick : (bytes : List ℕ) → IsUtf8 bytes → length bytes ≤ 4096 → tick_of bytes ≡ Some bytes
is_tick bytes text short = rw (is_utf8-from_IsUtf8 bytes text, at_most (length bytes) 4096 short) refl

pub is_too_long : (bytes : List ℕ) → IsUtf8 bytes → 4096 < length bytes → tick_of bytes ≡ None
is_too_long bytes text long = rw (is_utf8-from_IsUtf8 bytes text, more_than (length bytes) 4096 long) refl

pub is_no_tick : (bytes : List ℕ) → (IsUtf8 bytes → ⊥) → tick_of bytes ≡ None
is_no_tick bytes bad = rw (not_utf8 bytes bad) refl

-- what is told of a payload that is to be run
pub is_run : (payload : List ℕ) (g : Got) → IsUtf8 payload → replies_to payload g ≡ replies_of g
is_run payload g text = rw (is_utf8-from_IsUtf8 payload text) refl

pub is_not_run : (payload : List ℕ) (g : Got) → (IsUtf8 payload → ⊥) → replies_to payload g ≡ reply.Parse (utf8_valid_len payload) ∷ []
is_not_run payload g bad = rw (not_utf8 payload bad) refl
