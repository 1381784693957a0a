-- The lines that a client says.
use Rattle.std.specs.Prelude.{ℕ, List, [], ◌∷◌, ◌++◌, Option, None, Some, codes}
use Rattle.std.specs.Fmt.{decimal}
use Rattle.std.specs.List.{flat_map}
use Rattle.wm_base.specs.declared.geometry.Size.{Size}
use Rattle.wm_base.specs.declared.ids.ConId.{ConId}
use Rattle.wm_habits.specs.declared.asking.Asked.{Asked}
use Rattle.wm_habits.specs.declared.asking.Asked.TheVariants as asked
use Rattle.wm_habits.specs.declared.habit.Habit.{Habit}
use Rattle.wm_habits.specs.declared.habit.Habit.TheVariants as habits
use Rattle.wm_fields.specs.Fields.{size_of}

-- a window acknowledges the configure of this serial
abbrev pub ack_text : ConId → ℕ → List ℕ
ack_text con serial = codes "ack " ++ (decimal con.0 ++ (codes " " ++ decimal serial))

-- a size as `400x300`
abbrev pub size_text : Size → List ℕ
size_text size = decimal size.w ++ (codes "x" ++ decimal size.h)

-- a window has a blue buffer of this size
abbrev pub buffer_text : ConId → Size → List ℕ
buffer_text con size = codes "buffer " ++ (decimal con.0 ++ (codes " 0000ff " ++ size_text size))

-- a window closes
abbrev pub close_text : ConId → List ℕ
close_text con = codes "close " ++ decimal con.0

-- what a client says that does what it is asked
abbrev pub obeying : Asked → List (List ℕ)
obeying (asked.Configure con serial size) = ack_text con serial ∷ buffer_text con size ∷ []
obeying (asked.Kill con) = close_text con ∷ []

-- what one says that answers a configure by a serial and a buffer that nothing asked for, and does not close
abbrev pub mistaking : Asked → List (List ℕ)
mistaking (asked.Configure con serial size) = ack_text con 0 ∷ buffer_text con (size_of 0 0) ∷ []
mistaking (asked.Kill con) = []

-- what a client of this habit says to a line that asks so; nothing to any other line
abbrev pub said_to : Habit → Option Asked → List (List ℕ)
said_to habit None = []
said_to habits.AtOnce (Some a) = obeying a
said_to (habits.Late lines) (Some a) = obeying a
said_to habits.Never (Some a) = []
said_to habits.Wrong (Some a) = mistaking a

-- the bytes of lines, each with a line feed behind it
abbrev pub line_bytes : List (List ℕ) → List ℕ
line_bytes lines = flat_map (λ line. line ++ (10 ∷ [])) lines
