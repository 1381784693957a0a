-- What a step keeps of windows: who called for them, which were asked to close, and which a new tree may have.
use Rattle.std.specs.Prelude.{◌≡◌, ◌≤◌, ℕ, ◌+◌, true, false, if◌then◌else◌, List, Option, None, Some}
use Rattle.wm_forest.specs.Counts.{count}
use Rattle.wm_base.specs.declared.ids.Buffer.{Buffer}
use Rattle.wm_base.specs.declared.ids.ConId.{ConId}
use Rattle.wm_tree.specs.TreeValue.{TreeValue}
use Rattle.wm_txn.specs.History.{is_fresh}
use Rattle.wm_opens.specs.Opens.{OpensNoOther, may_open, owned_at, windows_at}
use Rattle.wm_history.specs.ByWindow.{put_at, value_at}
use Rattle.wm_history.specs.Windows.{owner_of, window_count}

-- by the id of a window, the number of the last step that asked it to close
abbrev pub kill_in : List (ℕ × ℕ) → ConId → Option ℕ
kill_in kills v = value_at kills v

-- what is kept of v after the step of this number asked these windows to close
abbrev pub kill_after : List ConId → ℕ → ConId → Option ℕ → Option ℕ
kill_after closes number v before = put_at closes number v before

-- the map has the caller of each window of the tree, and no other window
abbrev pub AreOwners : List (ℕ × ℕ) → TreeValue → Type 0
AreOwners owners t = (v : ConId) → value_at owners v ≡ owner_of t v

abbrev pub one_if_some : Option (ConId × Buffer) → ℕ
one_if_some None = 0
one_if_some (Some window) = 1

-- The new tree has no window that the old one had not but the fresh one, which might open before and no longer: of each id it
-- has no more windows, nor more of any one caller, and of all other ids together no more, but for the fresh one. No other id
-- may open.
pub record Follows (old new : TreeValue) (fresh : Option (ConId × Buffer)) : Type 0 where
  pub opens : OpensNoOther old new
  pub fresh_id : (v : ConId) → is_fresh v fresh ≡ true → (may_open old v ≡ true) × (may_open new v ≡ false)
  pub fewer : (v : ConId) → is_fresh v fresh ≡ false → windows_at v new ≤ windows_at v old
  pub owned : (who : ℕ) (v : ConId) → is_fresh v fresh ≡ false → count (owned_at who v) new.nodes ≤ count (owned_at who v) old.nodes
  pub others : (v : ConId) → window_count new + windows_at v old ≤ window_count old + windows_at v new + (if is_fresh v fresh then 0 else one_if_some fresh)
