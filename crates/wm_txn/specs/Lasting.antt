-- Laws of the schedule as the history grows.
use Rattle.std.specs.Prelude.{◌≡◌, ◌≤◌, ℕ, suc, ◌+◌, List, [], ◌∷◌, None, Some}
use Rattle.wm_txn.specs.Commits.{done, prefix}
use Rattle.wm_txn.specs.Accepted.{accepted}
use Rattle.wm_txn.specs.History.{Opening, Entry}
use Rattle.wm_txn.specs.Machine.{TxnValue}
use Rattle.wm_txn.specs.Schedule.{Transaction, ended, past, transaction_from}
use Rattle.wm_txn.specs.Stands.{Stands}

-- what has begun stays so
abbrev pub BegunStays : Type 0
BegunStays = (o : Opening) (history : List Entry) (entry : Entry) (i : ℕ) (transactions : List Transaction) → past o i history ≡ Some transactions → past o i (entry ∷ history) ≡ Some transactions

-- what has ended stays so
abbrev pub EndedStays : Type 0
EndedStays = (o : Opening) (history : List Entry) (entry : Entry) (transactions : List Transaction) (place : List Entry) → ended o transactions history ≡ Some place → ended o transactions (entry ∷ history) ≡ Some place

-- a transaction that has begun with one more entry began at that entry
abbrev pub BeginsThere : Type 0
BeginsThere = (o : Opening) (history : List Entry) (entry : Entry) (i : ℕ) (t : Transaction) (transactions : List Transaction) → past o i history ≡ None → past o i (entry ∷ history) ≡ Some (t ∷ transactions) → t ≡ transaction_from o transactions (entry ∷ history)

-- and only one begins there
abbrev pub BeginsOnce : Type 0
BeginsOnce = (o : Opening) (history : List Entry) (entry : Entry) (i : ℕ) → past o i history ≡ None → past o (suc i) (entry ∷ history) ≡ None

-- a transaction that has ended with one more entry ended at that entry
abbrev pub EndsThere : Type 0
EndsThere = (o : Opening) (history : List Entry) (entry : Entry) (transactions : List Transaction) (place : List Entry) → ended o transactions history ≡ None → ended o transactions (entry ∷ history) ≡ Some place → place ≡ entry ∷ history

-- the number of the last ended transaction and its prefix never fall
abbrev pub NeverFalls : Type 0
NeverFalls = (o : Opening) (history : List Entry) (entry : Entry) → (done o history ≤ done o (entry ∷ history)) × (prefix o history ≤ prefix o (entry ∷ history))

-- at most two transactions end at one entry
abbrev pub EndsTwiceAtMost : Type 0
EndsTwiceAtMost = (o : Opening) (history : List Entry) (entry : Entry) → done o (entry ∷ history) ≤ done o history + 2

-- and the second one awaits nobody
abbrev pub SecondAwaitsNobody : Type 0
SecondAwaitsNobody = (o : Opening) (history : List Entry) (entry : Entry) (before after : TxnValue) → Stands o history before → Stands o (entry ∷ history) after
    → (t : Transaction) (transactions : List Transaction) (place : List Entry) → past o (done o (accepted o history) + 2) (accepted o (entry ∷ history)) ≡ Some (t ∷ transactions) → ended o (t ∷ transactions) (accepted o (entry ∷ history)) ≡ Some place → t.awaits ≡ []
