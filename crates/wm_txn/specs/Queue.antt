-- The windows that a waiting transaction awaits, by rising id, so that the least one is found without a look at all parts.
use Rattle.std.specs.Prelude.{◌≡◌, ℕ, ◌&&◌, true, if◌then◌else◌, List, [], ◌∷◌, Option, None, Some}
use Rattle.wm_base.specs.declared.ids.ConId.{ConId}
use Rattle.wm_arrange.specs.declared.parts.Placed.{Placed}
use Rattle.wm_arrange.specs.Sizes.{is_content}
use Rattle.wm_txn.specs.Windows.{Windows, find, is_left, least_left}
use Rattle.wm_txn.specs.declared.held.Pending.{Pending}

-- the windows with a content among the parts that transaction n awaits and that have not answered, in the parts' order
abbrev pub lefts : ℕ → Windows → List Placed → List ConId
lefts n windows [] = []
lefts n windows (p ∷ parts) = if is_content p.part && is_left n (find p.con windows) then p.con ∷ lefts n windows parts else lefts n windows parts

-- the first of these windows that transaction n awaits and that has not answered
abbrev pub first_left : ℕ → Windows → List ConId → Option ConId
first_left n windows [] = None
first_left n windows (v ∷ ids) = if is_left n (find v windows) then Some v else first_left n windows ids

-- whom transaction n awaits among the new windows, it awaited among the old ones
abbrev pub AreFewer : ℕ → Windows → Windows → Type 0
AreFewer n old new = (v : ConId) → is_left n (find v new) ≡ true → is_left n (find v old) ≡ true

-- the least window among the parts that transaction n awaits is the first one in the list that it awaits, and stays so
-- whichever of them answer or close
abbrev pub IsQueue : ℕ → Windows → List Placed → List ConId → Type 0
IsQueue n windows parts ids = (new : Windows) → AreFewer n windows new → least_left n new parts ≡ first_left n new ids

-- the list, where there is one, is that of the transaction that waits
abbrev pub IsQueued : ℕ → Windows → Option Pending → Option (List ConId) → Type 0
IsQueued n windows None ids = Unit {0}
IsQueued n windows (Some p) None = Unit {0}
IsQueued n windows (Some p) (Some ids) = IsQueue n windows p.arrangement.parts ids
