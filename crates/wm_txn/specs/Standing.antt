-- Laws that hold of each machine that stands for a history.
use Rattle.std.specs.Prelude.{◌≡◌, ◌≤◌, List, ◌∷◌, length, is_some, not, ◌==◌}
use Rattle.wm_base.specs.declared.ids.ConId.{ConId}
use Rattle.wm_txn.specs.Commits.{done, started, waiting}
use Rattle.wm_txn.specs.Accepted.{accepted}
use Rattle.wm_txn.specs.History.{Opening, Entry, Still, is_open, was_open}
use Rattle.wm_txn.specs.Machine.{TxnValue, last_prefix, shown_of}
use Rattle.wm_txn.specs.Windows.{find, is_live}
use Rattle.wm_txn.specs.Stands.{Stands}

-- an entry that is none of the machine's business leaves it standing
abbrev pub StillStands : Type 0
StillStands = (o : Opening) (history : List Entry) (d : TxnValue) → Stands o history d → Stands o (Still ∷ history) d

-- each transaction began within the history
abbrev pub BeginsWithin : Type 0
BeginsWithin = (o : Opening) (history : List Entry) (d : TxnValue) → Stands o history d → last_prefix d ≤ length history

-- the machine knows each window that was ever open, and no other
abbrev pub KnowsWindows : Type 0
KnowsWindows = (o : Opening) (history : List Entry) (d : TxnValue) → Stands o history d → (v : ConId) → is_some (shown_of v d) ≡ was_open o v history

-- and which of them are open
abbrev pub KnowsOpen : Type 0
KnowsOpen = (o : Opening) (history : List Entry) (d : TxnValue) → Stands o history d → (v : ConId) → is_live (find v d.windows) ≡ is_open o v history

-- a waiting transaction is told exactly where more have begun than have ended
abbrev pub TellsWaiting : Type 0
TellsWaiting = (o : Opening) (history : List Entry) (d : TxnValue) → Stands o history d → is_some (waiting o (accepted o history)) ≡ not (started o (accepted o history) == done o (accepted o history))
