-- The words of a line: blanks between them, names, and the words of i3's own.
use Rattle.std.specs.Prelude.{ℕ, ◌==◌, nat_eq, nat_le, Bool, not, ◌&&◌, ◌||◌, if◌then◌else◌, List, [], ◌∷◌, length, drop, take_while, Option, None, Some}
use Rattle.std.specs.List.{starts_with}
use Rattle.std.specs.Str.{is_utf8}
use Rattle.wm_fields.specs.Fields.{behind, or_none}
use Rattle.wm_fields.specs.Quoted.{quoted_at, short_text}

-- a space or a tab
abbrev pub is_blank : ℕ → Bool
is_blank c = c == 32 || c == 9

-- a text without the blanks at its front
abbrev pub past_blanks : List ℕ → List ℕ
past_blanks text = drop (length (take_while is_blank text)) text

-- what follows one or more blanks
abbrev pub gap_at : List ℕ → Option (List ℕ)
gap_at [] = None
gap_at (c ∷ cs) = if is_blank c then Some (past_blanks cs) else None

-- what follows this word and the blanks behind it
abbrev pub word_then : List ℕ → List ℕ → Option (List ℕ)
word_then word text = or_none (behind word text) gap_at

-- what follows this word where it is there, which counts for nothing
abbrev pub or_all : Option (List ℕ) → List ℕ → List ℕ
or_all None text = text
or_all (Some rest) text = rest

abbrev pub passed_word : List ℕ → List ℕ → List ℕ
passed_word word text = or_all (word_then word text) text

-- the first of these characters, where there is one: a text of at most 1,024 bytes, and what is behind it
abbrev pub run_of : List ℕ → List ℕ → Option (List ℕ × List ℕ)
run_of word text = if nat_le 1 (length word) then or_none (short_text word) (λ said. Some (said, drop (length word) text)) else None

-- a word, which is all up to the first blank
abbrev pub word_at : List ℕ → Option (List ℕ × List ℕ)
word_at text = run_of (take_while (λ c. not (is_blank c)) text) text

-- a name: a quoted text, or a word that does not begin with a quotation mark, and what is behind it
abbrev pub name_at : List ℕ → Option (List ℕ × List ℕ)
name_at text = if starts_with nat_eq text (34 ∷ []) then quoted_at text else word_at text

-- neither a blank nor one of `,`, `;` and `"`, at which the words of commands end
abbrev pub is_in_command_word : ℕ → Bool
is_in_command_word c = not (is_blank c) && not (c == 44) && not (c == 59) && not (c == 34)

-- a word as commands have them: a quoted text, or all up to the first blank, `,`, `;` or `"`, and what is behind it
abbrev pub command_word_at : List ℕ → Option (List ℕ × List ℕ)
command_word_at text = if starts_with nat_eq text (34 ∷ []) then quoted_at text else run_of (take_while is_in_command_word text) text

-- bytes that are UTF-8
abbrev pub text_of : List ℕ → Option (List ℕ)
text_of bytes = if is_utf8 bytes then Some bytes else None
