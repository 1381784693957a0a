-- Modelled clients: what each says to a line from the server, and when.
use Rattle.std.specs.Prelude.{ℕ, nat_lt, if◌then◌else◌, List, [], ◌∷◌, ◌++◌, length, drop, Option, None}
use Rattle.wm_habits.specs.Asking.{asked_of}
use Rattle.wm_habits.specs.Saying.{line_bytes, said_to}
use Rattle.wm_habits.specs.declared.asking.Asked.{Asked}
use Rattle.wm_habits.specs.declared.habit.Habit.{Habit}
use Rattle.wm_habits.specs.declared.habit.Habit.TheVariants as habits

-- a client's habit, and what the lines asked that came and are not yet answered, the oldest first
pub record Acting : Type 0 where
  pub habit : Habit
  pub waiting : List (Option Asked)

-- a client to which no line came
abbrev pub opening : Habit → Acting
opening habit = record { habit = habit; waiting = [] }

-- after how many further lines a line is answered
abbrev pub late_by : Habit → ℕ
late_by habits.AtOnce = 0
late_by (habits.Late lines) = lines
late_by habits.Never = 0
late_by habits.Wrong = 0

-- the first of the lines that wait, or else this one
abbrev pub first_of : List (Option Asked) → Option Asked → Option Asked
first_of [] asked = asked
first_of (first ∷ others) asked = first

-- what is answered once a line comes that asks so: the line that came so many lines before, where there was one
abbrev pub due : Acting → Option Asked → Option Asked
due a asked = if nat_lt (length a.waiting) (late_by a.habit) then None else first_of a.waiting asked

-- the lines that wait then
abbrev pub waiting_then : Acting → Option Asked → List (Option Asked)
waiting_then a asked =
    let all = a.waiting ++ (asked ∷ []) in
    if nat_lt (length a.waiting) (late_by a.habit) then all else drop 1 all

-- what the client says to a line that asks so
abbrev pub says : Acting → Option Asked → List (List ℕ)
says a asked = said_to a.habit (due a asked)

-- the client after that line
abbrev pub then_acting : Acting → Option Asked → Acting
then_acting a asked = record a { waiting = waiting_then a asked }

-- the bytes that it says to a line
abbrev pub bytes_said : Acting → List ℕ → List ℕ
bytes_said a line = line_bytes (says a (asked_of line))

-- the client after a line
abbrev pub after_line : Acting → List ℕ → Acting
after_line a line = then_acting a (asked_of line)

-- the bytes that it says to lines, one after another
abbrev pub said_over : Acting → List (List ℕ) → List ℕ
said_over a [] = []
said_over a (line ∷ lines) = bytes_said a line ++ said_over (after_line a line) lines

-- the client after lines, one after another
abbrev pub after_lines : Acting → List (List ℕ) → Acting
after_lines a [] = a
after_lines a (line ∷ lines) = after_lines (after_line a line) lines
