-- A text of each form: its keywords in small letters, its arguments quoted, a blank between its pieces.
use Rattle.std.specs.Prelude.{ℕ, ◌<◌, List, [], ◌∷◌, ◌++◌, None, nat_abs, decimal}
use Rattle.std.specs.Fmt.{signed_decimal}
use Rattle.wm_language.specs.declared.command.Command.{Command}
use Rattle.wm_language.specs.declared.batch.Batch.{Batch}
use Rattle.wm_language.specs.Spelling.{quoted}
use Rattle.wm_language.specs.Words.{IsArgument}
use Rattle.wm_language.specs.Slots.{Slot, said, number, signed, word, text, anything}

-- the number has at most 32 bits, the argument is a text in UTF-8 of at most 1,024 bytes
abbrev pub CanStand : Slot → Type 0
CanStand (said name) = Unit {0}
CanStand (number n) = n < 4294967296
CanStand (signed z) = nat_abs z < 4294967296
CanStand (word x) = IsArgument x
CanStand (text x) = IsArgument x
CanStand anything = Unit {0}

-- each of them can
abbrev pub CanAllStand : List Slot → Type 0
CanAllStand [] = Unit {0}
CanAllStand (s ∷ slots) = CanStand s × CanAllStand slots

-- a text that fills the slot
abbrev pub piece_of : Slot → List ℕ
piece_of (said name) = name
piece_of (number n) = decimal n
piece_of (signed z) = signed_decimal z
piece_of (word x) = quoted x
piece_of (text x) = quoted x
piece_of anything = quoted []

-- a text of the form
abbrev pub written : List Slot → List ℕ
written [] = []
written (s ∷ []) = piece_of s
written (s ∷ t ∷ slots) = piece_of s ++ 32 ∷ written (t ∷ slots)

-- the batch of one command
abbrev pub alone : Command → Batch
alone c = record { groups = (record { criteria = None; commands = c ∷ [] }) ∷ [] }
