-- Names by their letters: those that begin alike share their beginning.
use Rattle.std.specs.Prelude.{ℕ, ◌+◌, ◌==◌, if◌then◌else◌, List, [], ◌∷◌, Option, None, Some}

-- Nothing, or a letter with the value of the name that ends with it, the letters that follow it, and those that stand in its place.
pub data Letters : Type 0 where
  end : Letters
  letter : ℕ → Option (List ℕ) → Letters → Letters → Letters

-- how many letters there are
abbrev pub count : Letters → ℕ
count end = 0
count (letter c value below others) = 1 + count below + count others

-- a name that goes on below this letter, or else the one that ends with it
abbrev pub or_here : Option (List ℕ) → Option (ℕ × List ℕ) → Option (ℕ × List ℕ)
or_here value (Some found) = Some (found.0 + 1, found.1)
or_here (Some value) None = Some (1, value)
or_here None None = None

-- the longest name with which the text begins: its length and its value
abbrev pub found : Letters → List ℕ → Option (ℕ × List ℕ)
found end text = None
found (letter c value below others) [] = None
found (letter c value below others) (d ∷ ds) = if c == d then or_here value (found below ds) else found others (d ∷ ds)

-- one name alone, of a first letter and the others
abbrev pub spelled : ℕ → List ℕ → List ℕ → Letters
spelled c [] value = letter c (Some value) end end
spelled c (d ∷ ds) value = letter c None (spelled d ds value) end

-- with one more name, of a first letter and the others, or another value of it
abbrev pub put : ℕ → List ℕ → List ℕ → Letters → Letters
put c rest value end = spelled c rest value
put c [] value (letter d held below others) = if d == c then letter d (Some value) below others else letter d held below (put c [] value others)
put c (e ∷ es) value (letter d held below others) =
    if d == c then letter d held (put e es value below) others else letter d held below (put c (e ∷ es) value others)

-- with one more name, or another value of it; a name has letters
abbrev pub put_name : List ℕ → List ℕ → Letters → Letters
put_name [] value letters = letters
put_name (c ∷ cs) value letters = put c cs value letters
