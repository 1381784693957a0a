-- Texts on a line: quoted ones, and names.
use Rattle.std.specs.Prelude.{ℕ, ◌==◌, nat_eq, nat_le, Bool, false, not, ◌&&◌, ◌||◌, if◌then◌else◌, List, [], ◌∷◌, ◌++◌, length, drop, take_while, Option, None, Some}
use Rattle.std.specs.List.{starts_with}
use Rattle.std.specs.Str.{is_utf8}
use Rattle.wm_fields.specs.Fields.{behind, or_none}

-- the character is the closing quotation mark; `escaped` tells whether a backslash stands before it that says of it what it means
abbrev pub closes : Bool → ℕ → Bool
closes escaped c = not escaped && c == 34

-- the character is a backslash that says what the next one means
abbrev pub escapes : Bool → ℕ → Bool
escapes escaped c = not escaped && c == 92

-- what the character stands for: after a backslash `"` and `\` stand for themselves and `n` for a line feed; before any other character the backslash stands for itself
abbrev pub stands_for : Bool → ℕ → List ℕ
stands_for escaped c =
    if escaped then (if c == 34 || c == 92 then c ∷ [] else if c == 110 then 10 ∷ [] else 92 ∷ c ∷ [])
    else if c == 92 then [] else c ∷ []

-- a text with this before it, and what is behind it
abbrev pub onto_text : List ℕ → Option (List ℕ × List ℕ) → Option (List ℕ × List ℕ)
onto_text said None = None
onto_text said (Some found) = Some (said ++ found.0, found.1)

-- what is said up to the closing quotation mark, and what is behind that
abbrev pub unquoted : Bool → List ℕ → Option (List ℕ × List ℕ)
unquoted escaped [] = None
unquoted escaped (c ∷ cs) = if closes escaped c then Some ([], cs) else onto_text (stands_for escaped c) (unquoted (escapes escaped c) cs)

-- the bytes are UTF-8, and at most this many
abbrev pub text_within : ℕ → List ℕ → Option (List ℕ)
text_within most bytes = if is_utf8 bytes && nat_le (length bytes) most then Some bytes else None

-- the bytes are UTF-8, and at most 1,024
abbrev pub short_text : List ℕ → Option (List ℕ)
short_text bytes = text_within 1024 bytes

-- a quoted text of at most this many bytes, and what is behind it
abbrev pub quoted_within : ℕ → List ℕ → Option (List ℕ × List ℕ)
quoted_within most text =
    or_none (behind (34 ∷ []) text) (λ inside. or_none (unquoted false inside) (λ found. or_none (text_within most found.0) (λ said. Some (said, found.1))))

-- a quoted text of at most 1,024 bytes, and what is behind it
abbrev pub quoted_at : List ℕ → Option (List ℕ × List ℕ)
quoted_at text = quoted_within 1024 text

-- a word, which is all up to the first space
abbrev pub word_at : List ℕ → Option (List ℕ × List ℕ)
word_at text =
    let word = take_while (λ c. not (c == 32)) text in
    if nat_le 1 (length word) then or_none (short_text word) (λ said. Some (said, drop (length word) text)) else None

-- a name: a quoted text, or a word that does not begin with a quotation mark, and what is behind it
abbrev pub name_at : List ℕ → Option (List ℕ × List ℕ)
name_at text = if starts_with nat_eq text (34 ∷ []) then quoted_at text else word_at text
