-- Names that are set, and what stands in their place in later lines.
use Rattle.std.specs.Prelude.{ℕ, zero, suc, ◌==◌, nat_eq, nat_le, if◌then◌else◌, List, [], ◌∷◌, ◌++◌, length, Option, None, Some, codes}
use Rattle.std.specs.List.{starts_with}
use Rattle.wm_fields.specs.Fields.{behind, or_none}
use Rattle.wm_binds.specs.Words.{gap_at, past_blanks, word_at, word_then}
use Rattle.wm_binds.specs.declared.naming.Name.{Name}

-- a name of this length with its value, or one found before that is longer
abbrev pub longer : ℕ → List ℕ → Option (ℕ × List ℕ) → Option (ℕ × List ℕ)
longer length value None = Some (length, value)
longer length value (Some found) = if nat_le found.0 length then Some (length, value) else Some found

-- of the names with which a text begins the longest: its length and its value. The latest set stands first, and of one name the latest counts
abbrev pub longest : List Name → List ℕ → Option (ℕ × List ℕ)
longest [] text = None
longest (n ∷ names) text = if starts_with nat_eq text n.name then longer (length n.name) n.value (longest names text) else longest names text

-- what stands in the place of a `$`: the value of the name behind it, or itself where no name is there
abbrev pub put_in : Option (ℕ × List ℕ) → List ℕ
put_in None = 36 ∷ []
put_in (Some name) = name.1

-- how many bytes the name has, where one is there
abbrev pub name_length : Option (ℕ × List ℕ) → ℕ
name_length None = 0
name_length (Some name) = name.0

-- a text with the values of the names that `find` finds behind a `$`, where so many first bytes belong to a name before. What is put in is not read again
abbrev pub replaced_behind : (List ℕ → Option (ℕ × List ℕ)) → ℕ → List ℕ → List ℕ
replaced_behind find skipped [] = []
replaced_behind find zero (c ∷ cs) =
    if c == 36 then put_in (find cs) ++ replaced_behind find (name_length (find cs)) cs
    else c ∷ replaced_behind find 0 cs
replaced_behind find (suc skipped) (c ∷ cs) = replaced_behind find skipped cs

abbrev pub replaced : (List ℕ → Option (ℕ × List ℕ)) → List ℕ → List ℕ
replaced find text = replaced_behind find 0 text

-- a value: all to the end of the line; both it and the name have something
abbrev pub value_of : (List ℕ → Option (ℕ × List ℕ)) → List ℕ → List ℕ → Option Name
value_of find [] text = None
value_of find name [] = None
value_of find name (c ∷ cs) = Some (record { name = name; value = replaced find (c ∷ cs) })

-- `$NAME VALUE`: the name as it stands, and the value with the names that were set before
abbrev pub set_at : (List ℕ → Option (ℕ × List ℕ)) → List ℕ → Option Name
set_at find text = or_none (behind (codes "$") text) (λ t. or_none (word_at t) (λ name. or_none (gap_at name.1) (value_of find name.0)))

-- what follows the word `set` at the front of a line
abbrev pub set_line : List ℕ → Option (List ℕ)
set_line text = word_then (codes "set") (past_blanks text)
