-- What a step of a desk promises.
use Rattle.std.specs.Prelude.{◌≡◌, ℕ, ◌<◌, ◌^◌, ◌+◌, List, ◌∷◌, Option, Result, IfOk, OnErr, OnOk}
use Rattle.wm_base.specs.declared.errors.NoMemory.{NoMemory}
use Rattle.wm_base.specs.declared.ids.Buffer.{Buffer}
use Rattle.wm_base.specs.declared.ids.ConId.{ConId}
use Rattle.wm_tree.specs.Sound.{IsSound}
use Rattle.wm_tree.specs.TreeValue.{TreeValue}
use Rattle.wm_core.specs.DeskValue.{DeskValue, StandsFrom, in_mode, judge_of}
use Rattle.wm_history.specs.Follows.{Follows}
use Rattle.wm_json.specs.declared.views.EventBody.{EventBody}
use Rattle.wm_kept.specs.Log.{Log}
use Rattle.wm_history.specs.Events.{IsToldOn}
use Rattle.wm_history.specs.History.{Entry, Start, answer, done_by}
use Rattle.wm_history.specs.declared.step.Answer.{Answer}

-- what is asked of a tree that a step leaves: it is counted, the tree is sound, and it has no window that the old one had not
-- but the one that was opened
pub record MayCome (old : DeskValue) (tree : TreeValue) (opened : Option (ConId × Buffer)) : Type 0 where
  pub few : old.steps < 2 ^ 48
  pub sound : IsSound tree
  pub follows : Follows old.tree tree opened

-- the desk stands for the entry too, from each opening and after each history for which it stood
abbrev pub GoesOn : DeskValue → DeskValue → Entry → Type 0
GoesOn old new entry = (start : Start) (history : List Entry) → StandsFrom start old history → StandsFrom start new (entry ∷ history)

-- this is the answer to the entry, from each opening and after each history for which the desk stood
abbrev pub IsAnswer : DeskValue → Entry → Answer → Type 0
IsAnswer old entry said = (start : Start) (history : List Entry) → StandsFrom start old history → said ≡ answer start history entry

-- this is the answer to the entry by what the desk has, whatever its history
abbrev pub IsThere : DeskValue → Entry → Answer → Type 0
IsThere old entry said = said ≡ (done_by old.plan.env old.mode old.tree entry).answer (judge_of old.txn)

-- a step that takes no memory: it is answered as the history says, by what the desk has, and counts in it
pub record Answers (old new : DeskValue) (said : Answer) (entry : Entry) : Type 0 where
  pub there : IsThere old entry said
  pub answer : IsAnswer old entry said
  pub stands : GoesOn old new entry
  pub plan : new.plan ≡ old.plan
  pub count : new.steps ≡ old.steps + 1

-- a step: the same, and after want of memory the desk is as it was
pub record Takes (old new : DeskValue) (result : Result Answer NoMemory) (entry : Entry) : Type 0 where
  pub there : IfOk result (IsThere old entry)
  pub answer : IfOk result (IsAnswer old entry)
  pub stands : OnOk result (GoesOn old new entry)
  pub plan : new.plan ≡ old.plan
  pub count : OnOk result (new.steps ≡ old.steps + 1)
  pub err : OnErr result (new ≡ old)

-- what is left to answer, to set this mode, if any, and to tell these events, is as a step
pub record Commits (old new : DeskValue) (set : Option (List ℕ)) (later : List EventBody) (result : Result (Unit {0}) NoMemory) (entry : Entry) : Type 0 where
  pub stands : (log : Log) → IsToldOn new.events later log → OnOk result (GoesOn old (in_mode set log new) entry)
  pub plan : new.plan ≡ old.plan
  pub count : OnOk result (new.steps ≡ old.steps + 1)
  pub err : OnErr result (new ≡ old)
