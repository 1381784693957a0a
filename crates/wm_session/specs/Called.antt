-- What the one call of a message gives.
use Rattle.std.specs.Prelude.{◌≡◌, ◌<◌, ◌≤◌, ◌^◌, ℕ, List, [], length, Result, Ok, Err, ⊤}
use Rattle.wm_criteria.specs.Building.{Grew, Log}
use Rattle.wm_history.specs.Act.{Act}
use Rattle.wm_history.specs.Look.{look}
use Rattle.wm_core.specs.Passes.{IsExhausted, Looked, Pass, Saw, Took}
use Rattle.wm_core.specs.declared.asked.Asked.TheVariants as asked
use Rattle.wm_core.specs.declared.refusals.ActRefusal.{ActRefusal}
use Rattle.wm_core.specs.declared.refusals.ActRefusal.TheVariants as refusal
use Rattle.wm_history.specs.declared.step.Answer.{Answer}
use Rattle.wm_talk.specs.declared.calls.Call.{Call}
use Rattle.wm_talk.specs.declared.calls.Call.TheVariants as call
use Rattle.wm_talk.specs.declared.got.Got.{Got}
use Rattle.wm_talk.specs.declared.got.Got.TheVariants as got
use Rattle.wm_session.specs.Places.{refused_by}
use Rattle.wm_session.specs.Walk.{IsStepOf}

-- the texts of a call are short enough to be run, or told to all
abbrev pub IsFitCall : Call → Type 0
IsFitCall (call.Run text) = length text < 2 ^ 32
IsFitCall (call.Tick text) = length text ≤ 4096
IsFitCall (call.Look q) = ⊤

-- the call's step was taken, these patterns of it being refused
pub record Stepped (old new : Pass) (c : Call) (g : Got) (refused : List (List ℕ)) : Type 0 where
  pub act : Act
  pub said : Answer
  pub step : IsStepOf c act
  pub took : Took old new act said
  pub gave : g ≡ got.Answer said
  pub patterns : refused ≡ refused_by act

-- what a call gave, these patterns being refused
abbrev pub Gave : Pass → Pass → Call → Got → List (List ℕ) → Type 0
Gave old new (call.Look q) (got.View v) refused = Looked old new (asked.Query q) (λ start seen. v ≡ look start seen old.caller q) × (refused ≡ [])
Gave old new (call.Look q) (got.Answer a) refused = ⊥
Gave old new (call.Run text) g refused = Stepped old new (call.Run text) g refused
Gave old new (call.Tick text) g refused = Stepped old new (call.Tick text) g refused

-- a call gave something, or it was refused
abbrev pub Called : Pass → Pass → Call → Log → Log → Result Got ActRefusal → Type 0
Called old new c from to (Ok g) = (refused : List (List ℕ)) × Gave old new c g refused × Grew from to refused
Called old new c from to (Err (refusal.Exhausted e)) = Saw old new × IsExhausted (length new.seen) e × ((refused : List (List ℕ)) × Grew from to refused)
Called old new c from to (Err refusal.NoMemory) = Saw old new × ((refused : List (List ℕ)) × Grew from to refused)
