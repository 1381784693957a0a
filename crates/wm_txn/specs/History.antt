-- The history of transactions, the newest entry first: what an arrangement, a client or a timer says, and what follows
-- from it for one window.
use Rattle.std.specs.Prelude.{ℕ, ◌==◌, nat_le, max, Bool, false, not, ◌&&◌, ◌||◌, if◌then◌else◌, List, [], ◌∷◌, Option, None, Some, is_some}
use Rattle.std.specs.List.{list_any}
use Rattle.wm_base.specs.declared.ids.Buffer.{Buffer}
use Rattle.wm_base.specs.declared.ids.ConId.{ConId}
use Rattle.wm_forest.specs.Look.{same}
use Rattle.wm_arrange.specs.declared.parts.Placed.{Placed}

-- how a history begins: an arrangement that is done, and the windows that are open, each with its buffer
pub record Opening : Type 0 where
  pub parts : List Placed
  pub windows : List (ConId × Buffer)

pub data Entry : Type 0 where
  -- a new arrangement, the window that was mapped with its buffer, and the windows that were closed
  Arranged : (newest : List Placed) (fresh : Option (ConId × Buffer)) (gone : List ConId) → Entry
  -- a client acknowledged a serial for its window
  Acked : (view : ConId) (serial : ℕ) → Entry
  -- a client gave a buffer for its window
  Gave : (view : ConId) (buffer : Buffer) → Entry
  -- the time of the transaction of this number is over
  Deadline : (number : ℕ) → Entry
  -- nothing of these
  Still : Entry

-- ---- the arrangement

abbrev pub parts_after : Entry → List Placed → List Placed
parts_after (Arranged newest fresh gone) before = newest
parts_after (Acked v serial) before = before
parts_after (Gave v buffer) before = before
parts_after (Deadline number) before = before
parts_after Still before = before

-- the arrangement after a history
abbrev pub arrangement : Opening → List Entry → List Placed
arrangement o [] = o.parts
arrangement o (entry ∷ history) = parts_after entry (arrangement o history)

-- ---- open windows

-- the buffer that a list of windows has for v
abbrev pub buffer_of : ConId → List (ConId × Buffer) → Option Buffer
buffer_of v [] = None
buffer_of v (window ∷ windows) = if same window.0 v then Some window.1 else buffer_of v windows

abbrev pub is_fresh : ConId → Option (ConId × Buffer) → Bool
is_fresh v None = false
is_fresh v (Some window) = same window.0 v

abbrev pub open_after : Entry → ConId → Bool → Bool
open_after (Arranged newest fresh gone) v before = (is_fresh v fresh || before) && not (list_any (same v) gone)
open_after (Acked c serial) v before = before
open_after (Gave c buffer) v before = before
open_after (Deadline number) v before = before
open_after Still v before = before

-- v is open after a history: it was at the opening or was mapped, and was not closed since
abbrev pub is_open : Opening → ConId → List Entry → Bool
is_open o v [] = is_some (buffer_of v o.windows)
is_open o v (entry ∷ history) = open_after entry v (is_open o v history)

abbrev pub maps : ConId → Entry → Bool
maps v (Arranged newest fresh gone) = is_fresh v fresh
maps v (Acked c serial) = false
maps v (Gave c buffer) = false
maps v (Deadline number) = false
maps v Still = false

-- v was open at the opening, or was mapped since
abbrev pub was_open : Opening → ConId → List Entry → Bool
was_open o v [] = is_some (buffer_of v o.windows)
was_open o v (entry ∷ history) = maps v entry || was_open o v history

-- ---- acknowledgements

abbrev pub last_after : Entry → ConId → ℕ → ℕ
last_after (Acked c serial) v before = if same c v then max serial before else before
last_after (Arranged newest fresh gone) v before = before
last_after (Gave c buffer) v before = before
last_after (Deadline number) v before = before
last_after Still v before = before

-- the greatest serial that v acknowledged, 0 before any
abbrev pub last : ConId → List Entry → ℕ
last v [] = 0
last v (entry ∷ history) = last_after entry v (last v history)

-- ---- buffers: each is under the serial that its window acknowledged last, that of a map or of the opening under 0

abbrev pub gives : ConId → Entry → Bool
gives v (Gave c buffer) = same c v
gives v (Arranged newest fresh gone) = false
gives v (Acked c serial) = false
gives v (Deadline number) = false
gives v Still = false

-- v gave a buffer under n
abbrev pub gave : ℕ → ConId → List Entry → Bool
gave n v [] = false
gave n v (entry ∷ history) = (gives v entry && last v history == n) || gave n v history

abbrev pub mapped_with : ConId → Option (ConId × Buffer) → Option Buffer → Option Buffer
mapped_with v None before = before
mapped_with v (Some window) before = if same window.0 v then Some window.1 else before

-- the buffer of v up to n after an entry, where v acknowledged `under` before it
abbrev pub buffer_after : Entry → ConId → ℕ → ℕ → Option Buffer → Option Buffer
buffer_after (Gave c buffer) v n under before = if same c v && nat_le under n then Some buffer else before
buffer_after (Arranged newest fresh gone) v n under before = mapped_with v fresh before
buffer_after (Acked c serial) v n under before = before
buffer_after (Deadline number) v n under before = before
buffer_after Still v n under before = before

-- the last buffer of v that is under a number up to n
abbrev pub buffer_up_to : Opening → ℕ → ConId → List Entry → Option Buffer
buffer_up_to o n v [] = buffer_of v o.windows
buffer_up_to o n v (entry ∷ history) = buffer_after entry v n (last v history) (buffer_up_to o n v history)

abbrev pub under_after : Entry → ConId → ℕ → ℕ → ℕ → ℕ
under_after (Gave c buffer) v n under before = if same c v && nat_le under n then under else before
under_after (Arranged newest fresh gone) v n under before = if is_fresh v fresh then 0 else before
under_after (Acked c serial) v n under before = before
under_after (Deadline number) v n under before = before
under_after Still v n under before = before

-- the number that this buffer is under
abbrev pub under_up_to : ℕ → ConId → List Entry → ℕ
under_up_to n v [] = 0
under_up_to n v (entry ∷ history) = under_after entry v n (last v history) (under_up_to n v history)
