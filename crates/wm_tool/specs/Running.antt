-- A desk takes steps one after another, and what they tell is written in pieces.
use Rattle.std.specs.Prelude.{◌≡◌, ℕ, ◌<◌, ◌≤◌, ◌+◌, ◌⊎◌, List, [], ◌∷◌, ◌++◌, length, Option, None, Some, Result, Ok, Err, take, drop, ⊤}
use Rattle.std.specs.List.{AllByRecursion}
use Rattle.wm_core.specs.DeskValue.{DeskValue, Stands}
use Rattle.wm_binds.specs.declared.config.Bind.{Bind}
use Rattle.wm_history.specs.History.{History, Start}
use Rattle.wm_criteria.specs.Building.{Log}
use Rattle.wm_criteria.specs.declared.prepared.Prepared.{Prepared}
use Rattle.wm_criteria.specs.declared.verdict.Verdict.{Verdict}
use Rattle.wm_criteria.specs.declared.verdict.Verdict.TheVariants.{Ready, Bad, PatternRefused}
use Rattle.wm_ports.specs.Told.{TakesAll, TakesPart}
use Rattle.wm_script.specs.Out.{texts_run}
use Rattle.wm_script.specs.declared.line.Line.{Line}
use Rattle.wm_script.specs.Refusals.{IsBacked, IsRising}
use Rattle.wm_script.specs.declared.refused.Refused.{Refused}

-- what held for a history holds for the one after it, and what is told there is added to the text
abbrev pub Leads : DeskValue → DeskValue → (History → History) → (History → List ℕ) → List ℕ → List ℕ → Type 0
Leads old new after told before text = (history : History) → Stands old history → Stands new (after history) × (text ≡ before ++ told history)

-- what was taken since is this
abbrev pub Holds : Option (List ℕ) → Option (List ℕ) → List ℕ → Type 0
Holds None now said = ⊤
Holds (Some t) now said = now ≡ Some (t ++ said)

-- The desk stands for what was run, what that told is written or is held in the piece, and with what is still to be
-- told after its history this makes the whole, whichever patterns will be refused later.
pub record Runs (old now : Option (List ℕ)) (desk : DeskValue) (refused : List Refused) (piece : List ℕ) (tells : List Refused → History → List ℕ) (whole : List Refused → List ℕ) : Type 0 where
  pub history : History
  pub stands : Stands desk history
  pub said : List ℕ
  pub taken : Holds old now said
  pub makes : (more : List Refused) → IsRising (length history) more → said ++ (piece ++ tells (refused ++ more) history) ≡ whole (refused ++ more)

-- a first part of the piece was taken, and the rest of it is held
pub record Writes (now new : Option (List ℕ)) (piece held : List ℕ) : Type 0 where
  pub count : ℕ
  pub taken : TakesAll now new (take count piece)
  pub left : held ≡ drop count piece

-- ---- refusals so far

-- the refusal that a verdict is, at a place
abbrev pub fresh : ℕ → Verdict → List Refused
fresh place (Ready batch) = []
fresh place (Bad at) = []
fresh place (PatternRefused pattern) = record { place = place; pattern = pattern } ∷ []

abbrev pub fresh_by : {E : Type 0} → ℕ → Result Prepared E → List Refused
fresh_by place (Ok prepared) = fresh place prepared.verdict
fresh_by place (Err e) = []

-- the refusal that is noted at a place, where there is one
abbrev pub noted_at : ℕ → Option ℕ → List Refused
noted_at place None = []
noted_at place (Some pattern) = record { place = place; pattern = pattern } ∷ []

-- the refusals are backed, and their places are before n
pub record IsBackedTo (n : ℕ) (texts : List (Option (List ℕ))) (refused : List Refused) (old new : Log) : Type 0 where
  pub below : AllByRecursion (λ (r : Refused). r.place < n) refused
  pub backed : IsBacked texts refused old new

-- Steps with these texts, behind those that were taken: the refusals that were backed before are so after them.
abbrev pub Backs : ℕ → List (Option (List ℕ)) → List Refused → List Refused → Log → Log → Type 0
Backs place steps before after old new =
    (past : List (Option (List ℕ))) → (first : Log) → place ≡ length past
    → IsBackedTo place past before first old → IsBackedTo (place + length steps) (past ++ steps) after first new

-- the refusals are as before, or one more at the place, where there is a step
abbrev pub Grows : ℕ → List (Option (List ℕ)) → List Refused → List Refused → Type 0
Grows place steps before after = (after ≡ before) ⊎ ((r : Refused) × (r.place ≡ place) × (after ≡ before ++ r ∷ []) × (1 ≤ length steps))

-- what steps with these texts, from this place on, make of a list of refusals: it has one more at most, and is backed as before
pub record Notes (place : ℕ) (steps : List (Option (List ℕ))) (before after : List Refused) (old new : Log) : Type 0 where
  pub grown : Grows place steps before after
  pub backed : Backs place steps before after old new

-- after each history of the desk, the refusals of a line's steps are noted
abbrev pub NotesLine : Start → List Bind → DeskValue → Line → List Refused → List Refused → Log → Log → Type 0
NotesLine start binds desk l before later old new = (h : History) → Stands desk h → Notes desk.steps (texts_run start binds h l.deed) before later old new

-- or they are by some list of refusals
abbrev pub NotesSome : Start → List Bind → DeskValue → Line → List Refused → Log → Log → Type 0
NotesSome start binds desk l before old new = (h : History) → Stands desk h → (later : List Refused) × Notes desk.steps (texts_run start binds h l.deed) before later old new

-- ---- a run and its refusals

-- what a run is at: the texts of the steps that were taken are past, and with those that are still ahead after its history they
-- make those of all steps, whichever patterns will be refused later
pub record Plays (old now : Option (List ℕ)) (desk : DeskValue) (refused : List Refused) (piece : List ℕ) (tells : List Refused → History → List ℕ) (whole : List Refused → List ℕ)
    (ahead : List Refused → History → List (Option (List ℕ))) (texts : List Refused → List (Option (List ℕ))) (first log : Log) : Type 0 where
  pub runs : Runs old now desk refused piece tells whole
  pub past : List (Option (List ℕ))
  pub counted : desk.steps ≡ length past
  pub backed : IsBackedTo desk.steps past refused first log
  pub goes : (more : List Refused) → IsRising (length runs.history) more → past ++ ahead (refused ++ more) runs.history ≡ texts (refused ++ more)

-- some list of refusals is backed
abbrev pub IsBackedBy : (List Refused → List (Option (List ℕ))) → Log → Log → Type 0
IsBackedBy texts first log = (refused : List Refused) × IsBacked (texts refused) refused first log

-- a run that has stopped wrote a first part, by refusals that are backed
abbrev pub Stops : Option (List ℕ) → Option (List ℕ) → (List Refused → List ℕ) → (List Refused → List (Option (List ℕ))) → Log → Log → Type 0
Stops old now whole texts first log = (refused : List Refused) × IsBacked (texts refused) refused first log × TakesPart old now (whole refused)

-- a run to the end wrote all, and its refusals are backed
abbrev pub Finishes : Option (List ℕ) → Option (List ℕ) → (List Refused → List ℕ) → List Refused → (List Refused → List (Option (List ℕ))) → Log → Log → Type 0
Finishes old now whole refused texts first log = IsBacked (texts refused) refused first log × TakesAll old now (whole refused)

-- what a run is at that tells nothing before its end
abbrev pub Draws : DeskValue → List Refused → (List Refused → History → List ℕ) → (List Refused → List ℕ) → (List Refused → History → List (Option (List ℕ))) → (List Refused → List (Option (List ℕ))) → Log → Log → Type 0
Draws desk refused tells whole ahead texts first log = Plays (Some []) (Some []) desk refused [] tells whole ahead texts first log
