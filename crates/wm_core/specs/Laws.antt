-- Laws of the frames of a history.
use Rattle.std.specs.Prelude.{◌≡◌, ◌⊎◌, ◌≤◌, ℕ, ◌+◌, true, List, [], ◌∷◌, Some, is_some}
use Rattle.wm_base.specs.declared.geometry.Size.{Size}
use Rattle.wm_base.specs.declared.ids.ConId.{ConId}
use Rattle.wm_arrange.specs.declared.parts.Placed.{Placed}
use Rattle.wm_arrange.specs.Sizes.{content_size}
use Rattle.wm_opens.specs.Opens.{is_window_of}
use Rattle.wm_txn.specs.Commits.{current, done, ended_transactions, shown}
use Rattle.wm_txn.specs.History as commits
use Rattle.wm_txn.specs.History.{is_open, under_up_to}
use Rattle.wm_txn.specs.Schedule.{Transaction, configure, ended, past}
use Rattle.wm_txn.specs.Shown.{Showing}
use Rattle.wm_core.specs.DeskValue.{DeskValue, Stands, StandsFrom}
use Rattle.wm_history.specs.Frame.{frame}
use Rattle.wm_history.specs.History.{Entry, Start, entries, first, accepted_of, opening_of, tree}

-- the arrangement that is painted
abbrev pub painted : Start → List Entry → List Placed
painted start history = current (first start) (accepted_of start history)

-- the number of the frame, and how many steps its arrangement stands for, never fall
abbrev pub FramesGoOn : Type 0
FramesGoOn = (start : Start) (history : List Entry) (entry : Entry)
    → ((frame start history).number ≤ (frame start (entry ∷ history)).number) × ((frame start history).prefix ≤ (frame start (entry ∷ history)).prefix)

-- v was asked for this size by the last of the ended transactions that asked it for any, and shows its buffer for that one,
-- unless a deadline that names it ended it, or the window was closed then
abbrev pub ShowsConfiguredSize : Start → List Entry → ConId → Size → Type 0
ShowsConfiguredSize start history v size =
    (i : ℕ) × (configure v (ended_transactions (first start) (accepted_of start history)) ≡ Some (i, size)) × Showing (first start) (accepted_of start history) v i

-- no transaction has ended, and v shows a buffer under 0
abbrev pub ShowsTheOpening : Start → List Entry → ConId → Type 0
ShowsTheOpening start history v = (done (first start) (accepted_of start history) ≡ 0) × (under_up_to (done (first start) (accepted_of start history)) v (accepted_of start history) ≡ 0)

-- from any opening, a window with a content in the frame shows what it was asked for, or what it had at the opening
abbrev pub ShowsItsAnswer : Type 0
ShowsItsAnswer = (start : Start) (d : DeskValue) (history : List Entry) → StandsFrom start d history → (v : ConId) (size : Size) → content_size v (painted start history) ≡ Some size
    → ShowsConfiguredSize start history v size ⊎ ShowsTheOpening start history v

-- from the opening of a plan, which has no windows, it shows what it was asked for
abbrev pub ShowsOnlyConfigured : Type 0
ShowsOnlyConfigured = (d : DeskValue) (history : List Entry) → Stands d history → (v : ConId) (size : Size) → content_size v (painted (opening_of d.plan) history) ≡ Some size
    → ShowsConfiguredSize (opening_of d.plan) history v size

-- each window with a content in the frame has a buffer to show, so that the frame drops none
abbrev pub ContentsAreShown : Type 0
ContentsAreShown = (start : Start) (d : DeskValue) (history : List Entry) → StandsFrom start d history → (v : ConId) (size : Size) → content_size v (painted start history) ≡ Some size
    → is_some (shown (first start) v (accepted_of start history)) ≡ true

-- at most two transactions end at one step
abbrev pub EndsTwiceAtMost : Type 0
EndsTwiceAtMost = (start : Start) (history : List Entry) (entry : Entry) → (frame start (entry ∷ history)).number ≤ (frame start history).number + 2

-- and the second one awaits nobody
abbrev pub SecondAwaitsNobody : Type 0
SecondAwaitsNobody = (start : Start) (before after : DeskValue) (history : List Entry) (entry : Entry) → StandsFrom start before history → StandsFrom start after (entry ∷ history)
    → (t : Transaction) (transactions : List Transaction) (place : List commits.Entry) → past (first start) ((frame start history).number + 2) (accepted_of start (entry ∷ history)) ≡ Some (t ∷ transactions)
    → ended (first start) (t ∷ transactions) (accepted_of start (entry ∷ history)) ≡ Some place → t.awaits ≡ []

-- the windows that are open for the transactions are those of the tree
abbrev pub OpenAreWindows : Type 0
OpenAreWindows = (start : Start) (d : DeskValue) (history : List Entry) → StandsFrom start d history → (v : ConId) → is_open (first start) v (entries start history) ≡ is_window_of (tree start history) v
