-- What stands at a place of a history that a caller has seen.
use Rattle.std.specs.Prelude.{ℕ, ◌+◌, ◌-◌, List, [], ◌∷◌, ◌++◌, length, drop, Option, None, Some}
use Rattle.wm_criteria.specs.Verdict.{refused_patterns}
use Rattle.wm_history.specs.Act.{Act}
use Rattle.wm_history.specs.Act as act
use Rattle.wm_history.specs.History.{Entry, History}
use Rattle.wm_core.specs.declared.asked.Asked.{Asked}
use Rattle.wm_turn.specs.declared.view.Mark.{Mark}
use Rattle.wm_turn.specs.declared.view.Mark.TheVariants.{Wrote, Read}

-- the history when it had n entries
abbrev pub at_length : ℕ → History → History
at_length n history = drop (length history - n) history

abbrev pub newest : History → Option Entry
newest [] = None
newest (entry ∷ history) = Some entry

-- the entry at a place, which is the number of the entries before it
abbrev pub entry_at : ℕ → History → Option Entry
entry_at place history = newest (at_length (place + 1) history)

-- ---- refused patterns

-- the patterns that an entry says were refused: one of a text that is run, or none
abbrev pub refused_by : Act → List (List ℕ)
refused_by (act.Run text) = refused_patterns text.text text.verdict
refused_by other = []

abbrev pub refused_at : Option Entry → List (List ℕ)
refused_at None = []
refused_at (Some entry) = refused_by entry.act

-- the patterns that were refused in the entries of these marks, in order; the newest mark comes first
abbrev pub refused_in : History → List (Mark Asked) → List (List ℕ)
refused_in seen [] = []
refused_in seen (Wrote place ∷ marks) = refused_in seen marks ++ refused_at (entry_at place seen)
refused_in seen (Read asked count ∷ marks) = refused_in seen marks
