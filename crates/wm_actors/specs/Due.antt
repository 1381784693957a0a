-- Which deadline is due, by the numbers of a clock and what waited at each of them.
use Rattle.std.specs.Prelude.{◌≡◌, ℕ, ◌+◌, ◌==◌, nat_le, Bool, false, if◌then◌else◌, List, [], ◌∷◌, Option, None, Some}
use Rattle.wm_actors.specs.declared.timer.Run.{Run}
use Rattle.wm_actors.specs.declared.timer.Timer.{Timer}

-- a number of a clock, and the number of the transaction that waited then, or none
pub record Pair : Type 0 where
  pub clock : ℕ
  pub waiting : Option ℕ

-- the transaction of this number waits
abbrev pub is_of : ℕ → Option ℕ → Bool
is_of number None = false
is_of number (Some waiting) = waiting == number

-- the clock's number of the first pair of the unbroken run at the end with this waiting number, or this one where there is
-- no such pair; the newest pair comes first
abbrev pub run_start : ℕ → ℕ → List Pair → ℕ
run_start number clock [] = clock
run_start number clock (pair ∷ pairs) = if is_of number pair.waiting then run_start number pair.clock pairs else clock

-- the waiting number, where the clock's number is at least `hold` above that of the first pair of its run
abbrev pub due_of : ℕ → ℕ → Option ℕ → List Pair → Option ℕ
due_of hold clock None pairs = None
due_of hold clock (Some number) pairs = if nat_le (run_start number clock pairs + hold) clock then Some number else None

-- The last pair's waiting number, where the last clock's number is at least `hold` above that of the first pair of the
-- unbroken run at the end with this waiting number; else none. The newest pair comes first.
abbrev pub due : ℕ → List Pair → Option ℕ
due hold [] = None
due hold (pair ∷ pairs) = due_of hold pair.clock pair.waiting pairs

-- the unbroken run at the end, where something waits there
abbrev pub run_of : ℕ → Option ℕ → List Pair → Option Run
run_of clock None pairs = None
run_of clock (Some number) pairs = Some (record { number = number; since = run_start number clock pairs })

abbrev pub last_run : List Pair → Option Run
last_run [] = None
last_run (pair ∷ pairs) = run_of pair.clock pair.waiting pairs

-- the timer was handed these pairs
abbrev pub HasSeen : List Pair → Timer → Type 0
HasSeen pairs timer = timer.run ≡ last_run pairs
