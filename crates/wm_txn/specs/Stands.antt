-- The histories that a machine stands for.
use Rattle.std.specs.Prelude.{◌≡◌, ◌<◌, ◌≤◌, ℕ, suc, ◌+◌, ◌==◌, nat_le, true, false, if◌then◌else◌, List, ◌∷◌, length, Option, None, Some, is_some}
use Rattle.std.specs.List.Sorted.{IsStrictlySortedBy}
use Rattle.std.specs.Map.{keys_of}
use Rattle.std.specs.Ordering.{nat_cmp}
use Rattle.wm_base.specs.declared.geometry.Size.{Size}
use Rattle.wm_base.specs.declared.ids.Buffer.{Buffer}
use Rattle.wm_base.specs.declared.ids.ConId.{ConId}
use Rattle.wm_arrange.specs.declared.parts.Arrangement.{Arrangement}
use Rattle.wm_arrange.specs.declared.parts.Placed.{Placed}
use Rattle.wm_arrange.specs.Same.{same_parts}
use Rattle.wm_arrange.specs.Sizes.{content_size}
use Rattle.wm_txn.specs.declared.held.Held.{Held}
use Rattle.wm_txn.specs.declared.held.Pending.{Pending}
use Rattle.wm_txn.specs.Commits.{prefix_of}
use Rattle.wm_txn.specs.Accepted.{accepted}
use Rattle.wm_txn.specs.History.{Opening, Entry, Arranged, arrangement, buffer_up_to, gave, is_fresh, is_open, last, under_up_to, was_open}
use Rattle.wm_txn.specs.Machine.{TxnValue}
use Rattle.wm_txn.specs.Windows.{Buffers, Windows, count_unanswered, find, left_of}
use Rattle.wm_txn.specs.Schedule.{Transaction, configure, configures, contents, ended, last_parts, past}

-- these transactions have ended in the history
pub record HasEnded (o : Opening) (history : List Entry) (transactions : List Transaction) : Type 0 where
  pub past_is : past o (length transactions) history ≡ Some transactions
  pub place : List Entry
  pub ended_at : ended o transactions history ≡ Some place
  pub within : length place ≤ length history

-- they have, and no other has begun
pub record IsIdle (o : Opening) (history : List Entry) (transactions : List Transaction) : Type 0 where
  pub done : HasEnded o history transactions
  pub none : past o (suc (length transactions)) history ≡ None

-- they have, and this one has begun after them and not ended
pub record IsWaiting (o : Opening) (history : List Entry) (t : Transaction) (transactions : List Transaction) : Type 0 where
  pub done : HasEnded o history transactions
  pub begun_is : past o (suc (length transactions)) history ≡ Some (t ∷ transactions)
  pub not_ended : ended o (t ∷ transactions) history ≡ None
  pub within : t.prefix ≤ length history

-- ---- the windows

abbrev pub configure_of : ℕ → Size → Option (ℕ × Size)
configure_of serial size = if serial == 0 then None else Some (serial, size)

abbrev pub serial_of : Option (ℕ × Size) → ℕ
serial_of None = 0
serial_of (Some configure) = configure.0

-- the numbers under which the buffers of v came never fall: those up to the last ended transaction are at most the serial
-- of v's latest configure up to it
pub record IsNumbered (history : List Entry) (transactions : List Transaction) (v : ConId) (acked under : ℕ) : Type 0 where
  pub acked_done : acked ≤ length transactions → acked ≤ serial_of (configure v transactions)
  pub shown_le : under_up_to (length transactions) v history ≤ serial_of (configure v transactions)
  pub newest_under : (n : ℕ) → under ≤ n → under_up_to n v history ≡ under
  pub gave_under : (n : ℕ) → gave n v history ≡ true → n ≤ under
  pub gave_shown : (n : ℕ) → gave n v history ≡ true → n ≤ length transactions → n ≤ under_up_to (length transactions) v history

-- what is kept of v is what the history says of it, where `transactions` have ended and `begun` have begun
pub record IsHeld (o : Opening) (history : List Entry) (transactions begun : List Transaction) (v : ConId) (w : Held) : Type 0 where
  pub live_is : is_open o v history ≡ w.live
  pub last_is : last v history ≡ w.acked_serial
  pub latest_is : configure v begun ≡ configure_of w.configure_serial w.configured_size
  pub before_is : length transactions < w.configure_serial → serial_of (configure v transactions) ≡ w.previous_serial
  pub newest_is : (n : ℕ) → w.buffer_serial ≤ n → buffer_up_to o n v history ≡ Some w.buffer
  pub saved_is : length transactions < w.buffer_serial → buffer_up_to o (length transactions) v history ≡ Some w.saved_buffer
  pub gave_is : (n : ℕ) → length transactions < n → gave n v history ≡ nat_le n w.buffer_serial
  pub under_le : w.buffer_serial ≤ w.acked_serial
  pub acked_le : w.acked_serial ≤ w.configure_serial
  pub serial_le : w.configure_serial ≤ length begun
  pub placed_le : w.placed ≤ length begun
  pub numbers : IsNumbered history transactions v w.acked_serial w.buffer_serial

-- v was never open
pub record IsUnknown (o : Opening) (history : List Entry) (begun : List Transaction) (v : ConId) : Type 0 where
  pub not_open : is_open o v history ≡ false
  pub no_last : last v history ≡ 0
  pub no_configure : configure v begun ≡ None
  pub no_buffer : (n : ℕ) → buffer_up_to o n v history ≡ None
  pub no_gift : (n : ℕ) → gave n v history ≡ false
  pub no_under : (n : ℕ) → under_up_to n v history ≡ 0

-- v is closed, and its newest buffer, which is under a number that is done, is this one
pub record IsGone (o : Opening) (history : List Entry) (transactions begun : List Transaction) (v : ConId) (buffer : Buffer) : Type 0 where
  pub held : Held
  pub held_is : IsHeld o history transactions begun v held
  pub closed : held.live ≡ false
  pub done : held.buffer_serial ≤ length transactions
  pub newest_is : held.buffer ≡ buffer

-- what is left of v is what the history says of it
abbrev pub IsLeft : Opening → List Entry → List Transaction → List Transaction → ConId → Option Buffer → Type 0
IsLeft o history transactions begun v None = IsUnknown o history begun v
IsLeft o history transactions begun v (Some buffer) = IsGone o history transactions begun v buffer

-- what is kept of v, or else left of it, is
abbrev pub IsKept : Opening → List Entry → List Transaction → List Transaction → ConId → Option Held → Option Buffer → Type 0
IsKept o history transactions begun v None left = IsLeft o history transactions begun v left
IsKept o history transactions begun v (Some w) left = IsHeld o history transactions begun v w

-- each content of the arrangement is of an open window
abbrev pub AreOpen : Opening → List Entry → Type 0
AreOpen o history = (v : ConId) → is_some (content_size v (arrangement o history)) ≡ true → is_open o v history ≡ true

-- the windows, and what has ended, are what the history says
pub record Keeps (o : Opening) (history : List Entry) (transactions begun : List Transaction) (number prefix : ℕ) (current : List Placed) (windows : Windows) (buffers : Buffers) : Type 0 where
  pub number_is : number ≡ length transactions
  pub prefix_is : prefix ≡ prefix_of transactions
  pub current_is : current ≡ last_parts o transactions
  pub each : (v : ConId) → IsKept o history transactions begun v (find v windows) (left_of v buffers)
  pub sorted : IsStrictlySortedBy nat_cmp (keys_of windows)
  pub open_contents : AreOpen o history

-- ---- the machine

-- what came since the last arrangement that has begun: nothing that differs, or the arrangement after the history
abbrev pub IsNewest : List Placed → List Placed → Option Arrangement → Type 0
IsNewest after last None = same_parts after last ≡ true
IsNewest after last (Some a) = a.parts ≡ after

-- the transaction that waits
pub record Waits (o : Opening) (history : List Entry) (transactions begun : List Transaction) (p : Pending) (left : ℕ) (windows : Windows) : Type 0 where
  pub t : Transaction
  pub begun_are : begun ≡ t ∷ transactions
  pub waiting_is : IsWaiting o history t transactions
  pub prefix_is : p.prefix ≡ t.prefix
  pub parts_are : p.arrangement.parts ≡ t.parts
  pub awaits_are : t.awaits ≡ contents (configures transactions t.parts) t.parts
  pub left_is : left ≡ count_unanswered (length transactions + 1) windows
  pub some_left : 0 < left

-- none waits
pub record Idles (o : Opening) (history : List Entry) (transactions begun : List Transaction) (newest : Option Arrangement) (left : ℕ) : Type 0 where
  pub begun_are : begun ≡ transactions
  pub idle_is : IsIdle o history transactions
  pub none_newest : newest ≡ None
  pub none_left : left ≡ 0

abbrev pub IsScheduled : Opening → List Entry → List Transaction → List Transaction → Option Pending → TxnValue → Type 0
IsScheduled o history transactions begun None d = Idles o history transactions begun d.newest d.left
IsScheduled o history transactions begun (Some p) d = Waits o history transactions begun p d.left d.windows

-- the machine stands for what was accepted
pub record StandsFor (o : Opening) (history : List Entry) (d : TxnValue) : Type 0 where
  pub transactions : List Transaction
  pub begun : List Transaction
  pub keeps : Keeps o history transactions begun d.number d.prefix d.current.parts d.windows d.gone
  pub newest_is : IsNewest (arrangement o history) (last_parts o begun) d.newest
  pub schedule : IsScheduled o history transactions begun d.waiting d
  pub within : length begun ≤ length history

-- the machine stands for the history: it is what the history leaves
abbrev pub Stands : Opening → List Entry → TxnValue → Type 0
Stands o history d = StandsFor o (accepted o history) d

-- an arrangement that may come after the history: a window that is mapped was not there before, and each content is of a
-- window that is open then
pub record IsFit (o : Opening) (history : List Entry) (newest : List Placed) (fresh : Option (ConId × Buffer)) (gone : List ConId) : Type 0 where
  pub new : (v : ConId) → is_fresh v fresh ≡ true → was_open o v history ≡ false
  pub shows : (v : ConId) → is_some (content_size v newest) ≡ true → is_open o v (Arranged newest fresh gone ∷ history) ≡ true
