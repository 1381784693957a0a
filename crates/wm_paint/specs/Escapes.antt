-- Texts in a line: a quotation mark, a backslash and a line feed are written as two characters each.
use Rattle.std.specs.Prelude.{ℕ, List, [], ◌∷◌, ◌++◌, Bool, ◌==◌, ◌||◌, if◌then◌else◌}

-- a quotation mark, a backslash or a line feed; no byte of a longer character is one of them
abbrev pub is_special : ℕ → Bool
is_special c = (c == 34) || ((c == 92) || (c == 10))

-- what follows the backslash: n for a line feed, else the character itself
abbrev pub letter_of : ℕ → ℕ
letter_of c = if c == 10 then 110 else c

abbrev pub escaped_byte : ℕ → List ℕ
escaped_byte c = if is_special c then 92 ∷ letter_of c ∷ [] else c ∷ []

-- the text with \" and \\ and \n for these three, all other characters as they are
unfoldable pub escaped : List ℕ → List ℕ
escaped [] = []
escaped (c ∷ cs) = escaped_byte c ++ escaped cs
