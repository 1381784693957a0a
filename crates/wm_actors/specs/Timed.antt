-- How far a timer is, and what it did.
use Rattle.std.specs.Prelude.{◌≡◌, ℕ, ◌^◌, List, ◌++◌, length, map, Option, Result, Ok, Err, ⊤}
use Rattle.wm_core.specs.Passes.{Pass}
use Rattle.wm_actors.specs.Due.{HasSeen, Pair}
use Rattle.wm_actors.specs.Exits.{Exits}
use Rattle.wm_actors.specs.Since.{Since}
use Rattle.wm_actors.specs.Ticks.{AreRounds, IsLast, Last, Round, all_marks, last_marks, last_pairs, pairs_of}
use Rattle.wm_actors.specs.Told.{Gave}
use Rattle.wm_actors.specs.declared.ending.ActorEnd.{ActorEnd}
use Rattle.wm_actors.specs.declared.ending.ActorEnd.TheVariants as end
use Rattle.wm_actors.specs.declared.timer.Timer.{Timer}

-- the numbers of a clock in pairs
abbrev pub clocks : List Pair → List ℕ
clocks pairs = map (λ pair. pair.clock) pairs

-- The timer has made these rounds since its first pass, and was handed their pairs; the clock told this at first, and tells
-- that now.
pub record Ticking (first now : Pass) (told_first told_now : Option (List ℕ)) (timer : Timer) : Type 0 where
  pub rounds : List Round
  pub since : Since first now (all_marks rounds) (λ start seen. AreRounds start first.caller timer.hold_ms seen rounds)
  pub handed : HasSeen (pairs_of rounds) timer
  pub told : Gave told_first told_now (clocks (pairs_of rounds))

-- an end that the history brings about: it takes no more steps
abbrev pub IsCause : ActorEnd → Pass → Type 0
IsCause end.Exhausted now = length now.seen ≡ 2 ^ 48
IsCause other now = ⊤

-- The timer made these rounds, and ended so in another one.
pub record Ended (first now : Pass) (hold : ℕ) (told_first told_now : Option (List ℕ)) (e : ActorEnd) : Type 0 where
  pub rounds : List Round
  pub last : Last
  pub since : Since first now (last_marks last ++ all_marks rounds) (λ start seen. AreRounds start first.caller hold seen rounds × IsLast e start hold seen rounds last)
  pub told : Gave told_first told_now (clocks (last_pairs last ++ pairs_of rounds))
  pub cause : IsCause e now

-- the timer goes on, or it has ended
abbrev pub GoesOn : {A : Type 0} → Pass → Pass → Option (List ℕ) → Option (List ℕ) → Timer → Result A ActorEnd → Type 0
GoesOn first now told_first told_now timer (Ok x) = Ticking first now told_first told_now timer
GoesOn first now told_first told_now timer (Err e) = Ended first now timer.hold_ms told_first told_now e

-- A timer's rounds, the one in which it ended, and the step `exit` where it was not stopped.
pub record Timed (first now : Pass) (hold : ℕ) (told_first told_now : Option (List ℕ)) (e : ActorEnd) : Type 0 where
  pub before : Pass
  pub ended : Ended first before hold told_first told_now e
  pub exits : Exits e before now
