-- Why a window shows its buffer.
use Rattle.std.specs.Prelude.{◌≡◌, ◌⊎◌, ℕ, true, false, List, ◌∷◌, None, Some}
use Rattle.wm_base.specs.declared.geometry.Size.{Size}
use Rattle.wm_base.specs.declared.ids.ConId.{ConId}
use Rattle.wm_arrange.specs.Sizes.{content_size}
use Rattle.wm_txn.specs.Commits.{current, done, ended_transactions}
use Rattle.wm_txn.specs.Accepted.{accepted}
use Rattle.wm_txn.specs.History.{Opening, Entry, is_open, under_up_to}
use Rattle.wm_txn.specs.Machine.{TxnValue}
use Rattle.wm_txn.specs.Schedule.{Transaction, configure, ended, is_named, past}
use Rattle.wm_txn.specs.Stands.{Stands}

-- a window in the arrangement that is done has the size that was configured last, by a transaction that has ended
abbrev pub HasConfiguredSize : Type 0
HasConfiguredSize = (o : Opening) (history : List Entry) (v : ConId) (size configured : Size) (i : ℕ) → content_size v (current o (accepted o history)) ≡ Some size → configure v (ended_transactions o (accepted o history)) ≡ Some (i, configured) → configured ≡ size

-- transaction i began and ended, and v shows a buffer under its number, unless a deadline that names it ended it, or v was
-- closed when it ended
pub record Showing (o : Opening) (history : List Entry) (v : ConId) (i : ℕ) : Type 0 where
  pub transaction : Transaction
  pub before : List Transaction
  pub place : List Entry
  pub begun_is : past o i history ≡ Some (transaction ∷ before)
  pub ended_at : ended o (transaction ∷ before) history ≡ Some place
  pub shows : (under_up_to (done o history) v history ≡ i) ⊎ ((is_named i transaction.prefix place ≡ true) ⊎ (is_open o v place ≡ false))

-- a window that an ended transaction has configured shows its answer to the last of these
abbrev pub ShowsAnswer : Type 0
ShowsAnswer = (o : Opening) (history : List Entry) (d : TxnValue) → Stands o history d → (v : ConId) (configured : Size) (i : ℕ) → configure v (ended_transactions o (accepted o history)) ≡ Some (i, configured)
    → Showing o (accepted o history) v i

-- where none configured it, no transaction has ended, and its buffer is under 0
abbrev pub ShowsOpening : Type 0
ShowsOpening = (o : Opening) (history : List Entry) (d : TxnValue) → Stands o history d → (v : ConId) (size : Size) → content_size v (current o (accepted o history)) ≡ Some size → configure v (ended_transactions o (accepted o history)) ≡ None
    → (done o (accepted o history) ≡ 0) × (under_up_to (done o (accepted o history)) v (accepted o history) ≡ 0)
