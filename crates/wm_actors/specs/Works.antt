-- The rounds of a worker.
use Rattle.std.specs.Prelude.{◌≡◌, ℕ, Bool, true, false, List, [], ◌∷◌, ◌++◌, map, Option, None, Some, ⊤}
use Rattle.wm_criteria.specs.Building.{Log}
use Rattle.wm_history.specs.History.{stopped}
use Rattle.wm_core.specs.Passes.{Looked, Pass}
use Rattle.wm_core.specs.declared.asked.Asked.TheVariants as asked
use Rattle.wm_ports.specs.Linking.{LinkTold}
use Rattle.wm_ports.specs.declared.listens.Accepted.{Accepted}
use Rattle.wm_ports.specs.declared.listens.Accepted.TheVariants as accepted
use Rattle.wm_session.specs.Served.{Stage, stage}
use Rattle.wm_actors.specs.declared.ending.ActorEnd.{ActorEnd}
use Rattle.wm_actors.specs.declared.ending.ActorEnd.TheVariants as end
use Rattle.wm_actors.specs.declared.serve.Failure.{Failure}
use Rattle.wm_actors.specs.declared.serve.Failure.TheVariants as failure

-- where a worker is: its pass, and the log of the patterns that were refused to it
pub record Spot : Type 0 where
  pub pass : Pass
  pub log : Log

abbrev pub spot : Pass → Log → Spot
spot pass log = record { pass = pass; log = log }

-- what came by an accepting: nobody, or a link, which was given back as its serving left it, and how that ended
pub data Visit (L E : Type 0) : Type 0 where
  Nobody : Visit L E
  Came : L → L → E → Visit L E

-- a round: what came, where the worker was when that was done with, and its pass when it had asked whether the desk is to stop
pub record Round (L E : Type 0) : Type 0 where
  pub visit : Visit L E
  pub done : Spot
  pub asked : Pass

-- what the worker did in the round in which it ended: all of it, or nothing but an accepting that failed, or no question
pub data Last (L E : Type 0) : Type 0 where
  Whole : Round L E → Last L E
  Not_accepted : Last L E
  Not_asked : Visit L E → Last L E

module _ {L E : Type 0} where
  -- where a worker is after these rounds, the newest first
  abbrev pub spot_after : Spot → List (Round L E) → Spot
  spot_after first [] = first
  spot_after first (round ∷ rounds) = spot round.asked round.done.log

  -- ---- what a listener was told

  -- what the accepting answered
  abbrev pub answer_of : Visit L E → Accepted L
  answer_of Nobody = accepted.Quiet
  answer_of (Came link left e) = accepted.Link link

  -- the answers of the acceptings, the newest first
  abbrev pub answers_of : List (Round L E) → List (Accepted L)
  answers_of rounds = map (λ round. answer_of round.visit) rounds

  abbrev pub last_answer : Last L E → Accepted L
  last_answer (Whole round) = answer_of round.visit
  last_answer Not_accepted = accepted.Failed
  last_answer (Not_asked visit) = answer_of visit

  -- the link that was given back
  abbrev pub left_of : Visit L E → List L
  left_of Nobody = []
  left_of (Came link left e) = left ∷ []

  -- the links that were given back, in order
  abbrev pub all_left : List (Round L E) → List L
  all_left [] = []
  all_left (round ∷ rounds) = all_left rounds ++ left_of round.visit

  abbrev pub last_left : Last L E → List L
  last_left (Whole round) = left_of round.visit
  last_left Not_accepted = []
  last_left (Not_asked visit) = left_of visit

-- what a link tells, how its faults are counted, and how it is served
module _ {L E : Type 0} (told : L → Option LinkTold) (faults : L → ℕ) (served : Stage → Stage → E → Type 0) where
  -- serving the link that came, if any, led from one place to another
  abbrev pub IsVisit : Spot → Visit L E → Spot → Type 0
  IsVisit from Nobody to = to ≡ from
  IsVisit from (Came link left e) to = served (stage from.pass (told link) (faults link) from.log) (stage to.pass (told left) (faults left) to.log) e

-- the failure with which a visit ended, if any, where these ends are failures
abbrev pub failure_of : {L E : Type 0} → (E → Option Failure) → Visit L E → Option Failure
failure_of fails Nobody = None
failure_of fails (Came link left e) = fails e

module _ {L E : Type 0} (told : L → Option LinkTold) (faults : L → ℕ) (served : Stage → Stage → E → Type 0) (fails : E → Option Failure) where
  -- a whole round from there: a visit, and then the question whether the desk is to stop, which was answered so
  pub record IsRound (from : Spot) (says : Bool) (round : Round L E) : Type 0 where
    pub visit : IsVisit told faults served from round.visit round.done
    pub fine : failure_of fails round.visit ≡ None
    pub asked : Looked round.done.pass round.asked asked.Stopped (λ start seen. says ≡ stopped start seen)

  -- each round goes on from the one before it, and in none the worker was told to stop
  abbrev pub AreRounds : Spot → List (Round L E) → Type 0
  AreRounds first [] = ⊤
  AreRounds first (round ∷ rounds) = AreRounds first rounds × IsRound (spot_after first rounds) false round

  -- the round in which the worker ended led from one place to another: it was told to stop; or the accepting failed; or
  -- serving a link did
  abbrev pub IsLast : ActorEnd → Spot → Last L E → Spot → Type 0
  IsLast end.Stopped from (Whole round) to = IsRound from true round × (to ≡ spot round.asked round.done.log)
  IsLast end.ListenFault from Not_accepted to = to ≡ from
  IsLast end.Exhausted from (Not_asked visit) to = IsVisit told faults served from visit to × (failure_of fails visit ≡ Some failure.Exhausted)
  IsLast end.NoMemory from (Not_asked visit) to = IsVisit told faults served from visit to × (failure_of fails visit ≡ Some failure.NoMemory)
  IsLast other from last to = ⊥
