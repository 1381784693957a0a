-- A recorded desk, and the histories that it stands for.
use Rattle.std.specs.Prelude.{◌≡◌, ℕ, ◌==◌, nat_lt, if◌then◌else◌, List, [], ◌∷◌, ◌++◌, length, Option, None, Some, refl}
use Rattle.std.specs.Coded.{Coded, code_by, coded×, coded_list}
use Rattle.wm_book.specs.contracts.entry.Entry as entry
use Rattle.wm_book.specs.declared.entry.Entry.{Entry}
use Rattle.wm_core.specs.DeskValue.{DeskValue, Stands, desk_code}
use Rattle.wm_core.specs.Entries.{history_of}
use Rattle.wm_history.specs.declared.step.Step.{Step}
use Rattle.wm_turn.specs.declared.view.Entry as turn

pub record RecordedValue : Type 0 where
  -- the desk
  pub desk : DeskValue
  -- the first steps that were taken on it, the oldest first
  pub entries : List Entry

-- how many steps are stored at most
abbrev pub most_stored : ℕ
most_stored = 65536

-- an entry as it is stored
abbrev pub stored_entry : turn.Entry Step → Entry
stored_entry entry = record { who = entry.who; step = entry.step }

-- what is stored of entries: the first ones, the oldest first
abbrev pub stored : List (turn.Entry Step) → List Entry
stored [] = []
stored (entry ∷ before) = if nat_lt (length before) most_stored then stored before ++ stored_entry entry ∷ [] else stored before

-- the entry at this place, which is the number of the entries before it
abbrev pub entry_at : ℕ → List (turn.Entry Step) → Option (turn.Entry Step)
entry_at place [] = None
entry_at place (entry ∷ before) = if length before == place then Some entry else entry_at place before

-- the recorded desk stands for the entries: the desk does, and the first of them are stored
pub record IsRecord (r : RecordedValue) (entries : List (turn.Entry Step)) : Type 0 where
  pub desk_stands : Stands r.desk (history_of entries)
  pub stored_are : r.entries ≡ stored entries

-- ---- how the logic stores it

abbrev pub recorded_code : Coded RecordedValue
recorded_code =
    code_by (DeskValue × List Entry) (coded× desk_code (coded_list entry.the_row.coded)) (λ r. (r.desk, r.entries)) (λ p. record { desk = p.0; entries = p.1 }) (λ _. refl)
