-- The rounds of a timer.
use Rattle.std.specs.Prelude.{◌≡◌, ℕ, ◌^◌, true, false, List, [], ◌∷◌, ◌++◌, length, map, Option, None, Some, Result, Ok, Err, ⊤}
use Rattle.std.specs.Option.{option_map}
use Rattle.wm_history.specs.Act.{Deadline}
use Rattle.wm_history.specs.History.{History, Start, stopped}
use Rattle.wm_history.specs.Look.{state}
use Rattle.wm_core.specs.Passes.{Pass, Saw, Took}
use Rattle.wm_core.specs.declared.asked.Asked.{Asked}
use Rattle.wm_core.specs.declared.asked.Asked.TheVariants as asked
use Rattle.wm_history.specs.declared.look.Query.TheVariants as query
use Rattle.wm_history.specs.declared.look.View.{View}
use Rattle.wm_history.specs.declared.look.View.TheVariants as view
use Rattle.wm_history.specs.declared.state.State.{State}
use Rattle.wm_history.specs.declared.step.Answer.{Answer}
use Rattle.wm_session.specs.Places.{at_length, entry_at}
use Rattle.wm_turn.specs.declared.view.Mark.{Mark}
use Rattle.wm_turn.specs.declared.view.Mark.TheVariants.{Wrote, Read}
use Rattle.wm_actors.specs.Due.{Pair, due}
use Rattle.wm_actors.specs.declared.ending.ActorEnd.{ActorEnd}
use Rattle.wm_actors.specs.declared.ending.ActorEnd.TheVariants as end

-- a round of a timer: how long the history was when it asked whether the desk is to stop, and when it looked at how far the
-- desk is; the number of the clock with what waited then; and the place of the deadline that it gave, or none
pub record Round : Type 0 where
  pub asked : ℕ
  pub looked : ℕ
  pub pair : Pair
  pub gave : Option ℕ

-- ---- the marks of rounds, the newest first

abbrev pub wrote_at : Option ℕ → List (Mark Asked)
wrote_at None = []
wrote_at (Some place) = Wrote place ∷ []

abbrev pub marks_of : Round → List (Mark Asked)
marks_of round = wrote_at round.gave ++ (Read (asked.Query query.State) round.looked ∷ Read asked.Stopped round.asked ∷ [])

abbrev pub all_marks : List Round → List (Mark Asked)
all_marks [] = []
all_marks (round ∷ rounds) = marks_of round ++ all_marks rounds

-- the pairs of rounds, the newest first
abbrev pub pairs_of : List Round → List Pair
pairs_of rounds = map (λ round. round.pair) rounds

-- ---- what rounds say of a history

-- the number of the transaction that waits, by how far a desk is
abbrev pub waiting_of : State → Option ℕ
waiting_of s = option_map (λ waiting. waiting.number) s.waiting

-- the number of the transaction that waits after a history
abbrev pub waiting_after : Start → History → Option ℕ
waiting_after start history = waiting_of (state start history)

-- the same by what was seen of how far the desk is
abbrev pub waiting_in : View → Option ℕ
waiting_in (view.State s) = waiting_of s
waiting_in other = None

-- the deadline of this number was given at this place, where one is due
abbrev pub IsGiven : ℕ → History → Option ℕ → Option ℕ → Type 0
IsGiven who seen None gave = gave ≡ None
IsGiven who seen (Some number) None = ⊥
IsGiven who seen (Some number) (Some place) = entry_at place seen ≡ Some (record { who = who; act = Deadline number })

-- the timer was not told to stop, and this waited when it looked
pub record IsLook (start : Start) (seen : History) (round : Round) : Type 0 where
  pub going : stopped start (at_length round.asked seen) ≡ false
  pub waited : round.pair.waiting ≡ waiting_after start (at_length round.looked seen)

-- a round after these: it gave the deadline that is due by the pairs so far, if any
pub record IsRound (start : Start) (who hold : ℕ) (seen : History) (rounds : List Round) (round : Round) : Type 0 where
  pub look : IsLook start seen round
  pub gave : IsGiven who seen (due hold (pairs_of (round ∷ rounds))) round.gave

abbrev pub AreRounds : Start → ℕ → ℕ → History → List Round → Type 0
AreRounds start who hold seen [] = ⊤
AreRounds start who hold seen (round ∷ rounds) = AreRounds start who hold seen rounds × IsRound start who hold seen rounds round

-- ---- the round in which it ended

-- what it did there: it asked whether the desk is to stop, at this length, and nothing else, or it did all but give a deadline
pub data Last : Type 0 where
  Asked_alone : ℕ → Last
  Not_given : Round → Last

abbrev pub last_marks : Last → List (Mark Asked)
last_marks (Asked_alone count) = Read asked.Stopped count ∷ []
last_marks (Not_given round) = marks_of round

abbrev pub last_pairs : Last → List Pair
last_pairs (Asked_alone count) = []
last_pairs (Not_given round) = round.pair ∷ []

-- a round that gave no deadline, although one is due
pub record IsNotGiven (start : Start) (hold : ℕ) (seen : History) (rounds : List Round) (round : Round) : Type 0 where
  pub look : IsLook start seen round
  pub none : round.gave ≡ None
  pub number : ℕ
  pub is_due : due hold (pairs_of (round ∷ rounds)) ≡ Some number

-- It was told to stop; or it did not look, for want of memory; or it gave no deadline, because the history takes no more steps.
abbrev pub IsLast : ActorEnd → Start → ℕ → History → List Round → Last → Type 0
IsLast end.Stopped start hold seen rounds (Asked_alone count) = stopped start (at_length count seen) ≡ true
IsLast end.NoMemory start hold seen rounds (Asked_alone count) = stopped start (at_length count seen) ≡ false
IsLast end.Exhausted start hold seen rounds (Not_given round) = IsNotGiven start hold seen rounds round
IsLast other start hold seen rounds last = ⊥

-- the deadline of this number was given, where there is one, or the history takes no more steps
abbrev pub Gives : {A : Type 0} → Pass → Pass → Option ℕ → Result A ActorEnd → Type 0
Gives old new None (Ok x) = new ≡ old
Gives old new None (Err e) = ⊥
Gives old new (Some number) (Ok x) = (said : Answer) × Took old new (Deadline number) said
Gives old new (Some number) (Err e) = (e ≡ end.Exhausted) × Saw old new × (length new.seen ≡ 2 ^ 48)
