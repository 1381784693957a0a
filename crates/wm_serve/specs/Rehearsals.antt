-- What a rehearsal was.
use Rattle.std.specs.Prelude.{◌≡◌, ◌*◌, ◌+◌, ◌++◌, ◌<◌, ℕ, List, length, take, drop, Option, IfSome, IfNone}
use Rattle.wm_actors.specs.Pictured.{Screen}
use Rattle.wm_book.specs.Recorded.{IsRecord, RecordedValue}
use Rattle.wm_core.specs.Entries.{history_of}
use Rattle.wm_history.specs.History.{opening_of}
use Rattle.wm_history.specs.declared.step.Step.{Step}
use Rattle.wm_crew.specs.declared.status.ServeStatus.TheVariants as ended
use Rattle.wm_serve.specs.Serving.{IsPlanRead, IsRefused, IsSummed}
use Rattle.wm_serve.specs.Summary.{summary}
use Rattle.wm_turn.specs.declared.view.Entry.{Entry}
use Rattle.wm_criteria.specs.Building.{Log}
use Rattle.wm_crew.specs.Running.{outside}
use Rattle.wm_crew.specs.declared.status.ServeStatus.{ServeStatus}
use Rattle.wm_layouts.specs.declared.plan.Plan.{Plan}
use Rattle.wm_serve.specs.Rehearsed.{faults_of, told_of}
use Rattle.wm_serve.specs.Running.{RanDesk}
use Rattle.wm_serve.specs.Callers.{doors_of, texts}
use Rattle.wm_serve.specs.Once.{AreGiven, OnceState, once_told}
use Rattle.wm_serve.specs.Said.{Said, texts_of}

-- The actors of a rehearsal ran on a recorded desk at the opening of the plan: n workers for callers, then n for modelled
-- clients, each with a listener of its own, which gave it its link; the desk that comes back stands for their history. Where all
-- of them were told to stop, the texts that each caller's entries there run are a prefix of what it sends, and those of caller 0
-- are all that it sends.
pub record Rehearsed {B : Type 0} (log : B → Log) (plan : Plan) (n hold : ℕ) (builds builds' : List B) (from to : Screen) (clock clock' : Option (List ℕ))
    (desk : Option RecordedValue) (status : ServeStatus) : Type 0 where
  pub doors : List OnceState
  pub ran : RanDesk told_of faults_of once_told (λ _. 0) log plan n hold (length (doors_of n) + 2)
      (outside (doors_of n) builds from.taken from.faults clock) (outside doors builds' to.taken to.faults clock') status (λ entries. IfSome desk (λ d. IsRecord d entries))
  pub given : AreGiven (doors_of n) doors
  pub said : status ≡ ended.Done → (caller : ℕ) → caller < n → Said (texts caller) caller ran.history
  pub all_said : status ≡ ended.Done → texts_of 0 (history_of ran.history) ≡ texts 0

-- The actors of a rehearsal ran on a recorded desk at the opening of a plan, and wrote their frames.
-- Where all of them were told to stop, the summary of the history for which the desk stands came then, elsewhere nothing.
pub record RanRehearsal {B : Type 0} (log : B → Log) (plan : Plan) (n hold : ℕ) (builds builds' : List B) (from to : Screen) (clock clock' : Option (List ℕ)) (result : ServeStatus) : Type 0 where
  pub used : List B
  pub left : Screen
  pub desk : Option RecordedValue
  pub ended : ServeStatus
  pub ran : Rehearsed log plan n hold (take (2 * n) builds) used from left clock clock' desk ended
  pub builds_are : builds' ≡ used ++ drop (2 * n) builds
  pub summed : IfSome desk (λ d. (history : List (Entry Step)) → IsRecord d history → IsSummed result (summary (opening_of plan) (history_of history)) left to)
  pub unsummed : IfNone desk ((result ≡ ended) × (to ≡ left))

-- builds, frames and clock are as they were
abbrev pub IsUnused : {B : Type 0} → List B → List B → Screen → Screen → Option (List ℕ) → Option (List ℕ) → Type 0
IsUnused builds builds' from to clock clock' = (builds' ≡ builds) × (to ≡ from) × (clock' ≡ clock)

-- Either the configuration was refused, and nothing was done; or it was read to its end and gives a plan, and then there was
-- no memory for a desk, and nothing was done, or actors rehearsed on one at the opening of the plan.
pub data IsRehearsed {B : Type 0} (log : B → Log) (n hold : ℕ) (read read' : Option (List ℕ)) (read_faults read_faults' : ℕ) (builds builds' : List B) (from to : Screen)
    (clock clock' : Option (List ℕ)) (result : ServeStatus) : Type 0 where
  Refused : IsRefused result read read' read_faults read_faults' → IsUnused builds builds' from to clock clock' → IsRehearsed log n hold read read' read_faults read_faults' builds builds' from to clock clock' result
  Not_started : (plan : Plan) → IsPlanRead read read' plan → result ≡ ended.NoMemory → IsUnused builds builds' from to clock clock' → IsRehearsed log n hold read read' read_faults read_faults' builds builds' from to clock clock' result
  Has_run : (plan : Plan) → IsPlanRead read read' plan → RanRehearsal log plan n hold builds builds' from to clock clock' result → IsRehearsed log n hold read read' read_faults read_faults' builds builds' from to clock clock' result
