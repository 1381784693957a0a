-- What a seat and a turnstile are to a contract.
use Rattle.std.specs.Prelude.{◌≡◌, ◌≤◌, ◌<◌, ℕ, ◌^◌, suc, zero, Bool, true, false, List, [], ◌∷◌, length, Option, None, Some}
use Rattle.atomic_table.specs.Seated.{TableId}
use Rattle.atomic_table.specs.Table.{Me}
use Rattle.atomic_table.specs.declared.shared.Seat.{Seat}
use Rattle.wm_turn.specs.declared.view.Entry.{Entry}
use Rattle.wm_turn.specs.declared.view.Mark.{Mark}
use Rattle.wm_turn.specs.declared.view.Stage.{Stage}
use Rattle.wm_turn.specs.declared.view.Stage.TheVariants.{Idle, Waits, Turn, Noted}
use Rattle.wm_turn.specs.declared.view.View.{View}
use Rattle.wm_turn.specs.History.{Begins, AreLegal, longer, places, wrote}

-- a seat
pub record Pass (O S Q : Type 0) : Type 0 where
  -- the turnstile that it is of
  pub door : TableId
  -- whether it has the turn
  pub turn : Bool
  -- the number under which its caller's entries stand
  pub caller : ℕ
  -- how many of the seats that were handed out it is
  pub parts : ℕ
  -- the opening of the value; every seat has one
  pub opening : Option O
  -- the history that its caller has seen, the newest entry first
  pub seen : List (Entry S)
  -- the marks of its caller's calls, the newest first
  pub mine : List (Mark Q)

-- a turnstile
pub record Gate (O : Type 0) : Type 0 where
  -- which one it is
  pub door : TableId
  -- with how many seats it was started
  pub seats : ℕ
  -- the opening of the value
  pub opening : O

-- between two calls who has the turn has noted the count too
abbrev pub has_turn : Stage → Bool
has_turn Idle = false
has_turn (Waits ticket) = false
has_turn (Turn ticket) = false
has_turn (Noted ticket) = true

-- between two calls a seat has no ticket, or it holds the slot, from which the value was taken out
abbrev pub IsAtRest : {V : Type 0} → Stage → List (ℕ × Option V) → Type 0
IsAtRest Idle slots = slots ≡ []
IsAtRest (Waits ticket) slots = ⊥
IsAtRest (Turn ticket) slots = ⊥
IsAtRest (Noted ticket) slots = slots ≡ (0, None) ∷ []

module _ {V O S Q : Type 0} where
  -- what a contract sees of a seat at the table
  abbrev pub pass_of : Seat (Option V) (View O S Q) → Pass O S Q
  pass_of seat = record {
    door = seat.table_id;
    turn = has_turn seat.me.0.stage;
    caller = seat.me.0.caller;
    parts = seat.me.0.parts;
    opening = seat.me.0.opening;
    seen = seat.me.0.seen;
    mine = seat.me.0.mine;
  }

  -- what is true of each seat between two calls
  pub record IsSeated (caller count : ℕ) (me : Me (Option V) (View O S Q)) : Type 0 where
    pub caller_is : caller ≡ me.0.caller
    pub count_is : count ≡ length me.0.seen
    pub few : count ≤ 2 ^ 48
    pub no_spare : me.0.spare ≡ 0
    pub live : 0 < me.0.parts
    pub rests : IsAtRest me.0.stage me.1
    pub legal : AreLegal me.0.caller me.0.seen me.0.mine

module _ {O S Q : Type 0} where
  -- a seat's marks are those of its caller's calls
  abbrev pub IsLegal : Pass O S Q → Type 0
  IsLegal pass = AreLegal pass.caller pass.seen pass.mine

  -- a seat that was just handed out
  abbrev pub new_pass : TableId → O → ℕ → Pass O S Q
  new_pass door opening caller =
      record { door = door; turn = false; caller = caller; parts = 1; opening = Some opening; seen = []; mine = [] }

  -- so many seats, numbered from this one on
  abbrev pub new_passes : TableId → O → ℕ → ℕ → List (Pass O S Q)
  new_passes door opening caller zero = []
  new_passes door opening caller (suc more) = new_pass door opening caller ∷ new_passes door opening (suc caller) more

  -- the longest history that one of these seats has seen, or else this one
  abbrev pub longest : List (Entry S) → List (Pass O S Q) → List (Entry S)
  longest history [] = history
  longest history (pass ∷ passes) = longer pass.seen (longest history passes)

  -- the seat has seen a beginning of this history, in which its caller's entries are those that it has marks of
  abbrev pub IsKnown : List (Entry S) → Pass O S Q → Type 0
  IsKnown history pass = Begins pass.seen history × (places pass.caller history ≡ wrote pass.mine)
