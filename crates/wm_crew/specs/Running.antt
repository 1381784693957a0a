-- What all actors of a server did beside one another.
use Rattle.std.specs.Prelude.{◌≡◌, ℕ, Bool, List, [], ◌∷◌, ◌++◌, length, Option}
use Rattle.wm_actors.specs.Pictured.{Pictured, screen}
use Rattle.wm_actors.specs.Timed.{Timed}
use Rattle.wm_actors.specs.declared.ending.ActorEnd.{ActorEnd}
use Rattle.wm_core.specs.Passes.{Pass}
use Rattle.wm_criteria.specs.Building.{Log}
use Rattle.wm_crew.specs.Crew.{AtAll, posts}
use Rattle.wm_crew.specs.Duties.{ServedAt}
use Rattle.wm_crew.specs.Faults.{fault_of, worse}
use Rattle.wm_crew.specs.declared.fault.Fault.{Fault}
use Rattle.wm_layouts.specs.declared.plan.Plan.{Plan}
use Rattle.wm_crew.specs.Status.{status_of}
use Rattle.wm_crew.specs.declared.status.ServeStatus.{ServeStatus}
use Rattle.wm_ports.specs.Linking.{LinkTold}
use Rattle.wm_ports.specs.Listening.{ListenTold}

-- the passes of the workers in the order of their doors, and those of the timer and of the painter
pub record Passes (P : Type 0) : Type 0 where
  pub workers : List P
  pub timer : P
  pub painter : P

abbrev pub crew : {P : Type 0} → List P → P → P → Passes P
crew workers timer painter = record { workers = workers; timer = timer; painter = painter }

-- all of them, in this order
abbrev pub all : {P : Type 0} → Passes P → List P
all passes = passes.workers ++ passes.timer ∷ passes.painter ∷ []

-- what an actor leaves as it is of what its caller carries: the caller's number, how many passes it is, whether it is within a
-- call, and the desk's plan
abbrev pub keep : Pass → ℕ × (ℕ × (Bool × Option Plan))
keep pass = (pass.caller, (pass.parts, (pass.turn, pass.opening)))

-- what is outside of a server: its doors, what builds the patterns of each, what its frames were written to, and its clock
pub record Outside (A B : Type 0) : Type 0 where
  pub doors : List A
  pub builds : List B
  pub taken : Option (List ℕ)
  pub sink_faults : ℕ
  pub clock : Option (List ℕ)

abbrev pub outside : {A B : Type 0} → List A → List B → Option (List ℕ) → ℕ → Option (List ℕ) → Outside A B
outside doors builds taken sink_faults clock = record { doors = doors; builds = builds; taken = taken; sink_faults = sink_faults; clock = clock }

-- what links and listeners tell, how their faults are counted, which passes are of the door, and what a caller carries by one
module _ {L A P B : Type 0} (link_told : L → Option LinkTold) (link_faults : L → ℕ) (told : A → Option (ListenTold L)) (faults : A → ℕ)
    (log : B → Log) (is_of : P → Type 0) (carried : P → Pass) where
  -- Each worker served at its door, the painter painted, and the timer gave the deadlines that were due, each with its own
  -- pass. Of their faults this one counts.
  pub record AllRan (ipc hold : ℕ) (old new : Passes P) (from to : Outside A B) (fault : Option Fault) : Type 0 where
    pub worked : Option Fault
    pub painter_end : ActorEnd
    pub timer_end : ActorEnd
    pub served : AtAll (ServedAt link_told link_faults told faults is_of carried log ipc) 0
        (posts old.workers from.doors from.builds) (posts new.workers to.doors to.builds) worked
    pub painter_door : is_of new.painter
    pub painted : Pictured (carried old.painter) (carried new.painter) (screen from.taken from.sink_faults) (screen to.taken to.sink_faults) painter_end
    pub timer_door : is_of new.timer
    pub timed : Timed (carried old.timer) (carried new.timer) hold from.clock to.clock timer_end
    pub counts : fault ≡ worse worked (worse (fault_of 0 timer_end) (fault_of 0 painter_end))

  -- Passes, those of the workers first, then the timer's, then the painter's, were led to these by their actors, each at its
  -- place. Of the actors' faults this one counts.
  pub record RanAtPlaces (ipc hold : ℕ) (passes passes' : List P) (from to : Outside A B) (fault : Option Fault) : Type 0 where
    pub old : Passes P
    pub new : Passes P
    pub old_are : passes ≡ all old
    pub new_are : passes' ≡ all new
    pub as_many : length new.workers ≡ length old.workers
    pub as_many_doors : length to.doors ≡ length from.doors
    pub as_many_builds : length to.builds ≡ length from.builds
    pub ran : AllRan ipc hold old new from to fault

  -- the same, and the status that it comes to
  pub record RanActors (ipc hold : ℕ) (passes passes' : List P) (from to : Outside A B) (status : ServeStatus) : Type 0 where
    pub fault : Option Fault
    pub ran : RanAtPlaces ipc hold passes passes' from to fault
    pub comes_to : status ≡ status_of fault
