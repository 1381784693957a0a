-- Which line a client answers.
use Rattle.std.specs.Prelude.{ℕ, ◌-◌, nat_lt, if◌then◌else◌, List, length, Option, None}
use Rattle.std.specs.List.{slice_get}
use Rattle.wm_habits.specs.Asking.{asked_of}
use Rattle.wm_habits.specs.declared.asking.Asked.{Asked}
use Rattle.wm_fields.specs.Fields.{or_none}

-- what the line asks that came so many lines before the last of these; None where none came so early
abbrev pub asked_before : ℕ → List (List ℕ) → Option Asked
asked_before n lines = if nat_lt n (length lines) then or_none (slice_get lines (length lines - 1 - n)) asked_of else None
