-- What the lines of a client say, and the first of them that says nothing.
use Rattle.std.specs.Prelude.{ℕ, ◌+◌, nat_le, if◌then◌else◌, List, [], ◌∷◌, length, Option, None, Some}
use Rattle.wm_history.specs.Act.{Act}
use Rattle.wm_cut.specs.Lines.{lines_in, rest_in}
use Rattle.wm_lines.specs.Lines.{client_act}

-- how many bytes a client's line may have, its line feed not counted
abbrev pub LONGEST : ℕ
LONGEST = 16384

-- the step of a client's line; None where it is outside the grammar, or too long
abbrev pub line_act : List ℕ → Option Act
line_act line = if nat_le (length line) LONGEST then client_act line else None

-- the number n where the line of that number has no step, else the number that is found later
abbrev pub bad_here : Option Act → ℕ → Option ℕ → Option ℕ
bad_here None n later = Some n
bad_here (Some act) n later = later

-- the number of the first of these lines that is bad, where the first one has the number n; the bytes behind them, which no
-- line feed has ended yet, are bad where they are too long by now
abbrev pub bad_from : ℕ → List (List ℕ) → List ℕ → Option ℕ
bad_from n [] rest = if nat_le (length rest) LONGEST then None else Some n
bad_from n (line ∷ lines) rest = bad_here (line_act line) n (bad_from (n + 1) lines rest)

-- the number of the first bad line of these bytes, counted from 1
abbrev pub bad_line : List ℕ → Option ℕ
bad_line bytes = bad_from 1 (lines_in bytes) (rest_in bytes)
