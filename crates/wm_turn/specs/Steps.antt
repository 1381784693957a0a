-- A seat at the table of a turnstile.
use Rattle.std.specs.Prelude.{◌≡◌, ◌<◌, ℕ, List, Option}
use Rattle.std.specs.List.{All}
use Rattle.atomic_table.specs.Seated.{TableId}
use Rattle.atomic_table.specs.declared.shared.Seat.{Seat}
use Rattle.wm_turn.specs.declared.view.Entry.{Entry}
use Rattle.wm_turn.specs.declared.view.View.{View}
use Rattle.wm_turn.specs.Rule.{AreCalls, calls_of}

-- a table has the words and the slot of a turnstile
abbrev pub IsSized : TableId → Type 0
IsSized table = (table.words ≡ 3) × (table.slots ≡ 1)

module _ {V O S Q : Type 0} where
  -- the seat is one of this table
  abbrev pub IsAt : TableId → Seat (Option V) (View O S Q) → Type 0
  IsAt table place = (place.table_id ≡ table) × IsSized table

  -- it is the same seat, whatever it knows
  abbrev pub IsSamePlace : Seat (Option V) (View O S Q) → Seat (Option V) (View O S Q) → Type 0
  IsSamePlace old new = (new.table_id ≡ old.table_id) × (new.id ≡ old.id)

-- the value that is left at the end, where this view has all parts: it stands for all that the view has seen, which is
-- the history
pub record IsLeft {V O S Q : Type 0} (opening_of : V → O) (stands : V → List (Entry S) → Type 0) (seats : ℕ) (opening : O) (v : View O S Q) (value : V) : Type 0 where
  pub opening_is : opening_of value ≡ opening
  pub stands_for : stands value v.seen
  pub numbers : All (λ entry. entry.who < seats) v.seen
  pub calls : All (AreCalls v.seen) (calls_of v)
