-- How a run of the server ends, and why.
use Rattle.std.specs.Prelude.{◌≡◌, ◌<◌, ◌+◌, ℕ, List, length, Option, Ok, Err, ⊤}
use Rattle.wm_actors.specs.Pictured.{Screen, screen}
use Rattle.wm_binds.specs.Reading.{config}
use Rattle.wm_binds.specs.declared.config.Bind.{Bind}
use Rattle.wm_binds.specs.declared.config.ConfigRefusal.{ConfigRefusal}
use Rattle.wm_binds.specs.declared.config.ConfigRefusal.TheVariants as refusals
use Rattle.wm_core.specs.DeskValue.{DeskValue, Stands}
use Rattle.wm_core.specs.Entries.{history_of}
use Rattle.wm_history.specs.History.{opening_of}
use Rattle.wm_history.specs.declared.step.Step.{Step}
use Rattle.wm_criteria.specs.Building.{Log}
use Rattle.wm_crew.specs.Running.{Outside}
use Rattle.wm_crew.specs.declared.status.ServeStatus.{ServeStatus}
use Rattle.wm_crew.specs.declared.status.ServeStatus.TheVariants as status
use Rattle.wm_defs.specs.Counts.{Rose}
use Rattle.wm_layouts.specs.declared.plan.Plan.{Plan}
use Rattle.wm_ports.specs.Linking.{LinkTold}
use Rattle.wm_ports.specs.Listening.{ListenTold}
use Rattle.wm_ports.specs.Told.{ReadsAll, ReadsCount, TakesAll, TakesPart}
use Rattle.wm_serve.specs.Running.{RanDesk}
use Rattle.wm_serve.specs.Summary.{summary}
use Rattle.wm_turn.specs.declared.view.Entry.{Entry}

-- how many bytes a configuration has at most
abbrev pub most_bytes : ℕ
most_bytes = 1048576

-- the configuration was read to its end, and gives this plan
pub record IsPlanRead (old new : Option (List ℕ)) (plan : Plan) : Type 0 where
  pub bytes : List ℕ
  pub binds : List Bind
  pub read : ReadsAll old new bytes
  pub gives : config bytes ≡ Ok (record { plan = plan; binds = binds })

-- bytes were read to their end that are no configuration, for this reason
pub record IsNone (old new : Option (List ℕ)) (why : ConfigRefusal) : Type 0 where
  pub bytes : List ℕ
  pub read : ReadsAll old new bytes
  pub refused : config bytes ≡ Err why

-- why a configuration was refused: its source failed, and its count of faults rose; it is too long; one of its lines is the
-- first that is outside the grammar, or that passes a limit; or there was no memory
abbrev pub IsRefused : ServeStatus → Option (List ℕ) → Option (List ℕ) → ℕ → ℕ → Type 0
IsRefused status.ReadFault old new faults faults' = Rose faults faults'
IsRefused (status.TooLarge read) old new faults faults' = (most_bytes < read) × ReadsCount old new read
IsRefused (status.BadConfig line) old new faults faults' = IsNone old new (refusals.BadLine line)
IsRefused (status.Full line limit) old new faults faults' = IsNone old new (refusals.Full line limit)
IsRefused status.NoMemory old new faults faults' = ⊤
IsRefused other old new faults faults' = ⊥

-- All was written of a summary; or the sink failed, and its count of faults rose, and a first part was written; or there was
-- no memory for it.
abbrev pub IsSummed : ServeStatus → List ℕ → Screen → Screen → Type 0
IsSummed status.Done text from to = TakesAll from.taken to.taken text
IsSummed status.WriteFault text from to = TakesPart from.taken to.taken text × Rose from.faults to.faults
IsSummed status.NoMemory text from to = to ≡ from
IsSummed other text from to = ⊥

-- where all actors were told to stop the summary follows, elsewhere nothing does
abbrev pub IsEnded : ServeStatus → ServeStatus → List ℕ → Screen → Screen → Type 0
IsEnded status.Done result text from to = IsSummed result text from to
IsEnded ended result text from to = (result ≡ ended) × (to ≡ from)

-- what frames are written to
abbrev pub screen_of : {A B : Type 0} → Outside A B → Screen
screen_of out = screen out.taken out.sink_faults

-- Actors ran on a desk at the opening of a plan, and left what is outside like this. Then came the summary of the history for
-- which the desk stands.
pub record Ran {L A B : Type 0} (link_told : L → Option LinkTold) (link_faults : L → ℕ) (told : A → Option (ListenTold L)) (faults : A → ℕ) (log : B → Log)
    (plan : Plan) (ipc hold : ℕ) (from to : Outside A B) (result : ServeStatus) : Type 0 where
  pub left : Outside A B
  pub ended : ServeStatus
  pub desk : DeskValue
  pub ran : RanDesk link_told link_faults told faults log plan ipc hold (length from.doors + 2) from left ended (λ entries. Stands desk (history_of entries))
  pub doors : to.doors ≡ left.doors
  pub builds : to.builds ≡ left.builds
  pub clock : to.clock ≡ left.clock
  pub summed : (history : List (Entry Step)) → Stands desk (history_of history) → IsEnded ended result (summary (opening_of plan) (history_of history)) (screen_of left) (screen_of to)

-- Either the configuration was refused, and nothing was done; or it was read to its end and gives a plan, and then there was
-- no memory for a desk, and nothing was done, or actors ran on one at the opening of the plan, with 8 doors for clients that
-- speak i3-ipc, and deadlines after so many milliseconds.
pub data IsServed {L A B : Type 0} (link_told : L → Option LinkTold) (link_faults : L → ℕ) (told : A → Option (ListenTold L)) (faults : A → ℕ) (log : B → Log) (hold : ℕ)
    (read read' : Option (List ℕ)) (read_faults read_faults' : ℕ) (from to : Outside A B) (result : ServeStatus) : Type 0 where
  Refused : IsRefused result read read' read_faults read_faults' → to ≡ from → IsServed link_told link_faults told faults log hold read read' read_faults read_faults' from to result
  Not_started : (plan : Plan) → IsPlanRead read read' plan → result ≡ status.NoMemory → to ≡ from → IsServed link_told link_faults told faults log hold read read' read_faults read_faults' from to result
  Has_run : (plan : Plan) → IsPlanRead read read' plan → Ran link_told link_faults told faults log plan 8 hold from to result → IsServed link_told link_faults told faults log hold read read' read_faults read_faults' from to result
