-- How far a worker is, and what it did.
use Rattle.std.specs.Prelude.{◌≡◌, ℕ, ◌≤◌, ◌^◌, true, false, List, ◌∷◌, ◌++◌, length, Option, None, Some, Result, Ok, Err, IfSome, ⊤}
use Rattle.wm_core.specs.Passes.{Looked, Pass}
use Rattle.wm_history.specs.History.{stopped}
use Rattle.wm_core.specs.declared.asked.Asked.{Asked}
use Rattle.wm_core.specs.declared.asked.Asked.TheVariants as asked
use Rattle.wm_defs.specs.Counts.{Rose}
use Rattle.wm_ports.specs.Linking.{LinkTold}
use Rattle.wm_ports.specs.Listening.{IsGivenBack, ListenTold}
use Rattle.wm_ports.specs.declared.listens.Accepted.{Accepted}
use Rattle.wm_session.specs.Served.{Stage}
use Rattle.wm_turn.specs.declared.view.Mark.{Mark}
use Rattle.wm_actors.specs.Exits.{Exits}
use Rattle.wm_actors.specs.Since.{Carried}
use Rattle.wm_actors.specs.Told.{grown_by}
use Rattle.wm_actors.specs.Works.{AreRounds, Came, IsLast, IsVisit, Last, Round, Spot, all_left, answers_of, last_answer, last_left, spot_after}
use Rattle.wm_actors.specs.declared.ending.ActorEnd.{ActorEnd}
use Rattle.wm_actors.specs.declared.ending.ActorEnd.TheVariants as end
use Rattle.wm_actors.specs.declared.serve.Failure.{Failure}
use Rattle.wm_actors.specs.declared.serve.Failure.TheVariants as failure

-- a listener: what it tells, and its count of faults
pub record Gate (L : Type 0) : Type 0 where
  pub told : Option (ListenTold L)
  pub faults : ℕ

abbrev pub gate : {L : Type 0} → Option (ListenTold L) → ℕ → Gate L
gate told faults = record { told = told; faults = faults }

-- since it told this, a listener answered so, the newest answer first, and these links were given back, in order
abbrev pub Heard : {L : Type 0} → Option (ListenTold L) → Option (ListenTold L) → List (Accepted L) → List L → Type 0
Heard None new answers left = ⊤
Heard (Some t) new answers left = new ≡ Some (record { answers = grown_by t.answers answers; returned = t.returned ++ left })

-- only what has been seen, and the marks, are others
pub record IsCarried (first now : Pass) : Type 0 where
  pub marks : List (Mark Asked)
  pub carried : Carried first now marks

-- an end that others bring about: the listener's count of faults rose, or the history takes no more steps
abbrev pub IsCause : ActorEnd → ℕ → ℕ → Pass → Type 0
IsCause end.ListenFault old new now = Rose old new
IsCause end.Exhausted old new now = IfSome now.opening (λ plan. length now.seen ≡ 2 ^ 48)
IsCause other old new now = ⊤

-- the end of an actor whose serving of a link failed
abbrev pub end_of_failure : Failure → ActorEnd
end_of_failure failure.Exhausted = end.Exhausted
end_of_failure failure.NoMemory = end.NoMemory

abbrev pub IsFailure : {A : Type 0} → Option Failure → Result A ActorEnd → Type 0
IsFailure None (Ok x) = ⊤
IsFailure None (Err e) = ⊥
IsFailure (Some f) (Ok x) = ⊥
IsFailure (Some f) (Err e) = e ≡ end_of_failure f

-- the desk is not to stop, or that is the end
abbrev pub Asks : {A : Type 0} → Pass → Pass → Result A ActorEnd → Type 0
Asks old new (Ok x) = Looked old new asked.Stopped (λ start seen. false ≡ stopped start seen)
Asks old new (Err e) = (e ≡ end.Stopped) × Looked old new asked.Stopped (λ start seen. true ≡ stopped start seen)

module _ {L E : Type 0} (told : L → Option LinkTold) (faults : L → ℕ) (served : Stage → Stage → E → Type 0) (fails : E → Option Failure) where
  -- a link was served and given back, and whether that is the end
  pub record Visits {A : Type 0} (from to : Spot) (old new : Gate L) (link : L) (result : Result A ActorEnd) : Type 0 where
    pub left : L
    pub how : E
    pub visit : IsVisit told faults served from (Came link left how) to
    pub back : IsGivenBack old.told new.told left
    pub ends : IsFailure (fails how) result
    pub full : fails how ≡ Some failure.Exhausted → IfSome to.pass.opening (λ plan. length to.pass.seen ≡ 2 ^ 48)
    pub carried : IsCarried from.pass to.pass
    pub risen : old.faults ≤ new.faults

  -- The worker has made these rounds since the first spot, and the listener was told of them.
  pub record Working (first now : Spot) (old new : Gate L) : Type 0 where
    pub rounds : List (Round L E)
    pub made : AreRounds told faults served fails first rounds
    pub now_is : now ≡ spot_after first rounds
    pub heard : Heard old.told new.told (answers_of rounds) (all_left rounds)
    pub carried : IsCarried first.pass now.pass
    pub risen : old.faults ≤ new.faults

  -- The worker made these rounds, and ended so in another one.
  pub record Ended (first now : Spot) (old new : Gate L) (e : ActorEnd) : Type 0 where
    pub rounds : List (Round L E)
    pub last : Last L E
    pub made : AreRounds told faults served fails first rounds
    pub ends : IsLast told faults served fails e (spot_after first rounds) last now
    pub heard : Heard old.told new.told (last_answer last ∷ answers_of rounds) (all_left rounds ++ last_left last)
    pub carried : IsCarried first.pass now.pass
    pub cause : IsCause e old.faults new.faults now.pass

  -- the worker goes on, or it has ended
  abbrev pub GoesOn : {A : Type 0} → Spot → Spot → Gate L → Gate L → Result A ActorEnd → Type 0
  GoesOn first now old new (Ok x) = Working first now old new
  GoesOn first now old new (Err e) = Ended first now old new e

  -- A worker's rounds, the one in which it ended, and the step `exit` where it was not stopped.
  pub record Worked (first now : Spot) (old new : Gate L) (e : ActorEnd) : Type 0 where
    pub before : Spot
    pub ended : Ended first before old new e
    pub exits : Exits e before.pass now.pass
    pub log : now.log ≡ before.log

  -- the worker goes on, or it has ended and tried the step `exit`
  abbrev pub Turns : Spot → Spot → Gate L → Gate L → Option ActorEnd → Type 0
  Turns first now old new None = Working first now old new
  Turns first now old new (Some e) = Worked first now old new e
