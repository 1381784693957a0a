-- The rounds of a painter.
use Rattle.std.specs.Prelude.{◌≡◌, ℕ, true, false, List, [], ◌∷◌, ◌++◌, ⊤}
use Rattle.wm_history.specs.History.{History, Start, stopped}
use Rattle.wm_core.specs.declared.asked.Asked.{Asked}
use Rattle.wm_core.specs.declared.asked.Asked.TheVariants as asked
use Rattle.wm_session.specs.Places.{at_length}
use Rattle.wm_turn.specs.declared.view.Mark.{Mark}
use Rattle.wm_turn.specs.declared.view.Mark.TheVariants.{Read}
use Rattle.wm_actors.specs.declared.ending.ActorEnd.{ActorEnd}
use Rattle.wm_actors.specs.declared.ending.ActorEnd.TheVariants as end

-- a round of a painter: how long the history was when it asked whether the desk is to stop, and when it read the frame
pub record Round : Type 0 where
  pub asked : ℕ
  pub painted : ℕ

-- the marks of rounds, the newest first
abbrev pub marks_of : Round → List (Mark Asked)
marks_of round = Read asked.Frame round.painted ∷ Read asked.Stopped round.asked ∷ []

abbrev pub all_marks : List Round → List (Mark Asked)
all_marks [] = []
all_marks (round ∷ rounds) = marks_of round ++ all_marks rounds

-- in none of these rounds it was told to stop
abbrev pub AreRounds : Start → History → List Round → Type 0
AreRounds start seen [] = ⊤
AreRounds start seen (round ∷ rounds) = AreRounds start seen rounds × (stopped start (at_length round.asked seen) ≡ false)

-- ---- the round in which it ended

-- what it did there: it asked whether the desk is to stop, at this length, and nothing else, or it read the frame too
pub data Last : Type 0 where
  Asked_alone : ℕ → Last
  Painted : Round → Last

abbrev pub last_marks : Last → List (Mark Asked)
last_marks (Asked_alone count) = Read asked.Stopped count ∷ []
last_marks (Painted round) = marks_of round

-- It was told to stop, and the frame that it read is one at which the desk is to stop; or it read a frame that was not
-- written; or there was no memory.
abbrev pub IsLast : ActorEnd → Start → History → Last → Type 0
IsLast end.Stopped start seen (Painted round) = (stopped start (at_length round.asked seen) ≡ true) × (stopped start (at_length round.painted seen) ≡ true)
IsLast end.WriteFault start seen (Painted round) = ⊤
IsLast end.NoMemory start seen last = ⊤
IsLast other start seen last = ⊥
