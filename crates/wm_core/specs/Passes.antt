-- What a caller of a door carries, and what its calls say of it.
use Rattle.std.specs.Prelude.{◌≡◌, ◌<◌, ℕ, ◌^◌, Bool, List, ◌∷◌, ◌++◌, length, map, Option, IsSomeAnd, Result, Ok, Err}
use Rattle.wm_base.specs.declared.errors.NoMemory.{NoMemory}
use Rattle.wm_layouts.specs.declared.plan.Plan.{Plan}
use Rattle.wm_history.specs.Act.{Act}
use Rattle.wm_history.specs.History.{History, Start, answer, opening_of}
use Rattle.wm_core.specs.declared.asked.Asked.{Asked}
use Rattle.wm_core.specs.declared.refusals.ActRefusal.{ActRefusal}
use Rattle.wm_core.specs.declared.refusals.ActRefusal.TheVariants as refusal
use Rattle.wm_core.specs.declared.refusals.Exhausted.{Exhausted}
use Rattle.wm_history.specs.declared.step.Answer.{Answer}
use Rattle.wm_turn.specs.History as turn
use Rattle.wm_turn.specs.declared.view.Entry as transactions
use Rattle.wm_turn.specs.declared.view.Mark.{Mark}
use Rattle.wm_turn.specs.declared.view.Mark.TheVariants.{Wrote, Read}

-- what a caller carries through a door
pub record Pass : Type 0 where
  -- the number under which its steps stand
  pub caller : ℕ
  -- how many of the passes that were handed out it is
  pub parts : ℕ
  -- the plan with which the desk was opened; each pass has one
  pub opening : Option Plan
  -- whether it is within a call
  pub turn : Bool
  -- the history that it has seen, the newest step first
  pub seen : History
  -- the marks of its calls, the newest first
  pub mine : List (Mark Asked)

-- the history goes on from what was seen
abbrev pub Begins : History → History → Type 0
Begins seen history = (more : History) × (history ≡ more ++ seen)

-- a history in the words of a turnstile
abbrev pub acts : History → List (transactions.Entry Act)
acts history = map (λ entry. record { who = entry.who; step = entry.act }) history

-- the places of a caller's entries, the newest first; a place is the number of the entries before it
abbrev pub places : ℕ → History → List ℕ
places who history = turn.places who (acts history)

-- the caller's entries in what it has seen are exactly those that it has marks of, and its marks stand in order within it
abbrev pub IsLegal : Pass → Type 0
IsLegal pass = turn.AreLegal pass.caller (acts pass.seen) pass.mine

-- ---- what a call leaves

-- nothing was taken or told; more may have been seen
pub record Saw (old new : Pass) : Type 0 where
  pub begins : Begins old.seen new.seen
  pub pass : new ≡ record old { seen = new.seen }

-- a step was taken: behind what had been seen came steps of others, and then this one, with the answer that the history
-- gives it there
pub record Took (old new : Pass) (act : Act) (said : Answer) : Type 0 where
  pub before : History
  pub begins : Begins old.seen before
  pub own : places old.caller before ≡ places old.caller old.seen
  pub few : length before < 2 ^ 48
  pub pass : new ≡ record old { seen = record { who = old.caller; act = act } ∷ before; mine = Wrote (length before) ∷ old.mine }
  pub answer : IsSomeAnd old.opening (λ plan. said ≡ answer (opening_of plan) before (record { who = old.caller; act = act }))

-- a question was answered by all that was seen then
pub record Looked (old new : Pass) (asked : Asked) (tells : Start → History → Type 0) : Type 0 where
  pub begins : Begins old.seen new.seen
  pub pass : new ≡ record old { seen = new.seen; mine = Read asked (length new.seen) ∷ old.mine }
  pub answer : IsSomeAnd old.opening (λ plan. tells (opening_of plan) new.seen)

-- ---- what a call answers

-- as many steps stand in the history as it takes
abbrev pub IsExhausted : ℕ → Exhausted → Type 0
IsExhausted count exhausted = (count ≡ 2 ^ 48) × (exhausted.steps ≡ count)

-- why a step is refused where so many stand in the history: there are as many as it takes, or there was no memory
abbrev pub IsRefusedAt : ℕ → ActRefusal → Type 0
IsRefusedAt count refusal.NoMemory = count < 2 ^ 48
IsRefusedAt count (refusal.Exhausted exhausted) = IsExhausted count exhausted

-- a step is taken and answered, or it is refused
abbrev pub Acts : Pass → Pass → Act → Result Answer ActRefusal → Type 0
Acts old new act (Ok said) = Took old new act said
Acts old new act (Err refusal) = Saw old new × IsRefusedAt (length new.seen) refusal

-- the same of a step that takes no memory
abbrev pub ActsAlways : Pass → Pass → Act → Result Answer Exhausted → Type 0
ActsAlways old new act (Ok said) = Took old new act said
ActsAlways old new act (Err exhausted) = Saw old new × IsExhausted (length new.seen) exhausted

-- a question is answered, or there was no memory
abbrev pub Looks : {A : Type 0} → Pass → Pass → Asked → (A → Start → History → Type 0) → Result A NoMemory → Type 0
Looks old new asked tells (Ok value) = Looked old new asked (tells value)
Looks old new asked tells (Err e) = Saw old new
