-- What each step on the table tells: of the seat before, the number that was found, and the seat after.
use Rattle.std.specs.Prelude.{◌≡◌, ◌≤◌, ℕ, ◌%◌, ◌^◌, ◌==◌, if◌then◌else◌, List, ◌∷◌, length, Option, None, Some}
use Rattle.std.specs.List.{All}
use Rattle.atomic_table.specs.Table.{Me, Step, rest}
use Rattle.wm_turn.specs.declared.view.Entry.{Entry}
use Rattle.wm_turn.specs.declared.view.Mark.TheVariants.{Wrote, Read}
use Rattle.wm_turn.specs.declared.view.Stage.{Stage}
use Rattle.wm_turn.specs.declared.view.Stage.TheVariants.{Idle, Waits, Turn, Noted}
use Rattle.wm_turn.specs.declared.view.View.{View}
use Rattle.wm_turn.specs.History.{Begins}
use Rattle.wm_turn.specs.Rule.{AreCalls, calls_of}

-- a ticket that waits has the turn where its number is the one found
abbrev pub stage_at : ℕ → Stage → Stage
stage_at found Idle = Idle
stage_at found (Waits ticket) = if found == ticket % 2 ^ 64 then Turn ticket else Waits ticket
stage_at found (Turn ticket) = Turn ticket
stage_at found (Noted ticket) = Noted ticket

-- who has the turn has noted the count
abbrev pub noted_stage : Stage → Stage
noted_stage Idle = Idle
noted_stage (Waits ticket) = Waits ticket
noted_stage (Turn ticket) = Noted ticket
noted_stage (Noted ticket) = Noted ticket

module _ {O S Q : Type 0} where
  -- the view after it added the entry of this step
  abbrev pub logged : Option S → View O S Q → View O S Q
  logged None v = v
  logged (Some step) v = record v { seen = record { who = v.caller; step = step } ∷ v.seen; mine = Wrote (length v.seen) ∷ v.mine }

  -- the view after it passed the turn on, where this question was answered
  abbrev pub passed_on : Option Q → View O S Q → View O S Q
  passed_on None v = record v { stage = Idle }
  passed_on (Some question) v = record v { stage = Idle; mine = Read question (length v.seen) ∷ v.mine }

module _ {W O S Q : Type 0} where
  -- the seat has the ticket that was found
  abbrev pub draws : Step (Option W) → Me (Option W) (View O S Q) → ℕ → Me (Option W) (View O S Q) → Type 0
  draws step before found after =
      (ticket : ℕ) × (found ≡ ticket % 2 ^ 64) × (after ≡ (record before.0 { stage = Waits ticket }, before.1))

  -- the seat has the turn where its ticket was found
  abbrev pub watches : Step (Option W) → Me (Option W) (View O S Q) → ℕ → Me (Option W) (View O S Q) → Type 0
  watches step before found after = after ≡ (record before.0 { stage = stage_at found before.0.stage }, before.1)

  -- the seat has added the entry
  abbrev pub logs : Option S → Step (Option W) → Me (Option W) (View O S Q) → ℕ → Me (Option W) (View O S Q) → Type 0
  logs said step before found after = after ≡ (logged said before.0, before.1)

  -- the seat has given back the slot and the turn
  abbrev pub passes_on : Option Q → Step (Option W) → Me (Option W) (View O S Q) → ℕ → Me (Option W) (View O S Q) → Type 0
  passes_on said step before found after = after ≡ (passed_on said before.0, rest before.1)

  -- what was seen before begins what the seat has seen, in which the calls of each number that it holds stand
  abbrev pub agrees : Step (Option W) → Me (Option W) (View O S Q) → ℕ → Me (Option W) (View O S Q) → Type 0
  agrees step before found after =
      (after ≡ before) × All (λ old. Begins old before.0.seen) before.0.old_seen × All (AreCalls before.0.seen) (calls_of before.0)

-- the view has seen the whole history, of which the count is the length, and the value stands for it
pub record HasNoted {V O S Q : Type 0} (opening_of : V → O) (stands : V → List (Entry S) → Type 0) (before : View O S Q) (value : V) (count : ℕ) (after : View O S Q) : Type 0 where
  pub after_is : after ≡ record before { stage = noted_stage before.stage; seen = after.seen }
  pub begins : Begins before.seen after.seen
  pub count_is : count ≡ length after.seen
  pub few : count ≤ 2 ^ 48
  pub calls : All (AreCalls after.seen) (calls_of before)
  pub opening_is : before.opening ≡ Some (opening_of value)
  pub stands_for : stands value after.seen

-- the seat has noted the count, and holds the slot with the value
abbrev pub notes : {V O S Q : Type 0} → (V → O) → (V → List (Entry S) → Type 0) → Step (Option V) → Me (Option V) (View O S Q) → ℕ → Me (Option V) (View O S Q) → Type 0
notes {V} opening_of stands step before found after =
    (value : V) × HasNoted opening_of stands before.0 value found after.0 × (after.1 ≡ (0, Some value) ∷ before.1)
