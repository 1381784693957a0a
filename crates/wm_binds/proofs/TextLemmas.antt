-- Bytes that are UTF-8, or are not.
use Rattle.std.proofs.Common.{◌≡◌, refl, ℕ, List, None, Some}
use Rattle.std.specs.Str.{IsUtf8}
use Rattle.std.proofs.lemmas.Str.{is_utf8-from_IsUtf8}
use Rattle.wm_fields.proofs.TextLemmas.{not_utf8}
use Rattle.wm_binds.specs.Words.{text_of}

pub is_text : (bytes : List ℕ) → IsUtf8 bytes → text_of bytes ≡ Some bytes
is_text bytes text = rw (is_utf8-from_IsUtf8 bytes text) refl

pub is_no_text : (bytes : List ℕ) → (IsUtf8 bytes → ⊥) → text_of bytes ≡ None
is_no_text bytes bad = rw (not_utf8 bytes bad) refl
