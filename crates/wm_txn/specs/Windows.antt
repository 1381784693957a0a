-- The windows that the transactions keep, by id: what they are configured with, those that are mapped and close, and the
-- buffers of those that are gone.
use Rattle.std.specs.Prelude.{◌≡◌, ℕ, ◌+◌, ◌==◌, nat_le, nat_lt, Bool, true, false, not, ◌&&◌, ◌||◌, if◌then◌else◌, List, [], ◌∷◌, Option, None, Some, is_some}
use Rattle.std.specs.BTreeMap.{insert_entry, is_at}
use Rattle.std.specs.List.{list_any}
use Rattle.std.specs.List.Sorted.{IsStrictlySortedBy}
use Rattle.std.specs.Map.{keys_of, lookup, set_value}
use Rattle.std.specs.Ordering.{nat_cmp}
use Rattle.wm_base.specs.declared.geometry.Size.{Size}
use Rattle.wm_base.specs.declared.ids.Buffer.{Buffer}
use Rattle.wm_base.specs.declared.ids.ConId.{ConId}
use Rattle.wm_arrange.specs.declared.parts.Placed.{Placed}
use Rattle.wm_arrange.specs.Sizes.{content_size, is_content}
use Rattle.wm_forest.specs.Look.{same}
use Rattle.wm_txn.specs.History.{is_fresh}
use Rattle.wm_txn.specs.Schedule.{same_size}
use Rattle.wm_txn.specs.Commits.{lesser}
use Rattle.wm_txn.specs.declared.held.Held.{Held}

-- ---- a window

abbrev pub held_of : Buffer → Held
held_of buffer = record { live = true; acked_serial = 0; buffer = buffer; buffer_serial = 0; saved_buffer = buffer; configure_serial = 0; configured_size = buffer.size; previous_serial = 0; placed = 0 }

-- transaction n awaits it, and it has not answered
abbrev pub is_unanswered : ℕ → Held → Bool
is_unanswered n w = w.live && (w.configure_serial == n && nat_lt w.buffer_serial n)

abbrev pub configured_by : ℕ → Size → Held → Held
configured_by n size w =
    if w.placed == n then w
    else if w.configure_serial == 0 || not (same_size w.configured_size size) then record w { placed = n; previous_serial = w.configure_serial; configure_serial = n; configured_size = size }
    else record w { placed = n }

abbrev pub committed_serial : ℕ → Held → ℕ
committed_serial done w = if nat_le w.configure_serial done then w.configure_serial else w.previous_serial

abbrev pub shown_by : ℕ → Held → Buffer
shown_by done w = if nat_le w.buffer_serial done then w.buffer else w.saved_buffer

abbrev pub buffered_with : ℕ → Buffer → Held → Held
buffered_with done buffer w = record w { saved_buffer = shown_by done w; buffer = buffer; buffer_serial = w.acked_serial }

abbrev pub acked_with : ℕ → Held → Held
acked_with serial w = record w { acked_serial = serial }

-- ---- the windows, by id

abbrev pub Windows : Type 0
Windows = List (ℕ × Held)

-- the ids rise
abbrev pub AreSorted : Windows → Type 0
AreSorted windows = IsStrictlySortedBy nat_cmp (keys_of windows)

abbrev pub find : ConId → Windows → Option Held
find v windows = lookup (is_at (nat_cmp v.0)) windows

-- the buffers of windows that are gone, by id: of each, the one that it shows
abbrev pub Buffers : Type 0
Buffers = List (ℕ × Buffer)

-- what is left of v where it is gone
abbrev pub left_of : ConId → Buffers → Option Buffer
left_of v buffers = lookup (is_at (nat_cmp v.0)) buffers

-- the windows with another value for v, which is there
abbrev pub put : ConId → Held → Windows → Windows
put v w windows = set_value (is_at (nat_cmp v.0)) windows w

abbrev pub size_of : Placed → Size
size_of p = record { w = p.rect.w; h = p.rect.h }

abbrev pub one_if : Bool → ℕ
one_if true = 1
one_if false = 0

-- transaction n awaits the window now, and did not before
abbrev pub is_newly_configured : ℕ → Size → Held → Bool
is_newly_configured n size w = not (w.placed == n) && is_unanswered n (configured_by n size w)

abbrev pub configure_found : ℕ → Size → ConId → Option Held → Windows → Windows
configure_found n size v None windows = windows
configure_found n size v (Some w) windows = put v (configured_by n size w) windows

abbrev pub count_found : ℕ → Size → Option Held → ℕ
count_found n size None = 0
count_found n size (Some w) = one_if (is_newly_configured n size w)

-- the windows after transaction n places this part, and how many it awaits for that
abbrev pub configure_part : ℕ → Placed → Windows → Windows
configure_part n p windows = if is_content p.part then configure_found n (size_of p) p.con (find p.con windows) windows else windows

abbrev pub count_part : ℕ → Placed → Windows → ℕ
count_part n p windows = if is_content p.part then count_found n (size_of p) (find p.con windows) else 0

-- the same for all parts, in order
abbrev pub configure_all : ℕ → List Placed → Windows → Windows
configure_all n [] windows = windows
configure_all n (p ∷ parts) windows = configure_all n parts (configure_part n p windows)

abbrev pub count_all : ℕ → List Placed → Windows → ℕ
count_all n [] windows = 0
count_all n (p ∷ parts) windows = count_part n p windows + count_all n parts (configure_part n p windows)

-- how many windows transaction n awaits that have not answered
abbrev pub count_unanswered : ℕ → Windows → ℕ
count_unanswered n [] = 0
count_unanswered n (e ∷ windows) = one_if (is_unanswered n e.1) + count_unanswered n windows

-- ---- windows that close or are mapped

abbrev pub closed_held : Held → Held
closed_held w = record w { live = false }

abbrev pub close_found : ConId → Option Held → Windows → Windows
close_found v None windows = windows
close_found v (Some w) windows = put v (closed_held w) windows

abbrev pub close_all : List ConId → Windows → Windows
close_all [] windows = windows
close_all (v ∷ gone) windows = close_all gone (close_found v (find v windows) windows)

abbrev pub count_awaited : ℕ → Option Held → ℕ
count_awaited n None = 0
count_awaited n (Some w) = one_if (is_unanswered n w)

-- how many windows that transaction n awaits are among those that close
abbrev pub count_closed : ℕ → List ConId → Windows → ℕ
count_closed n [] windows = 0
count_closed n (v ∷ gone) windows = count_awaited n (find v windows) + count_closed n gone (close_found v (find v windows) windows)

abbrev pub open_fresh : Option (ConId × Buffer) → Windows → Windows
open_fresh None windows = windows
open_fresh (Some window) windows = insert_entry nat_cmp windows window.0.0 (held_of window.1)

abbrev pub is_live : Option Held → Bool
is_live None = false
is_live (Some w) = w.live

-- v is open after an arrangement that came with a window that was mapped and with those that closed
abbrev pub stays_open : Option (ConId × Buffer) → List ConId → Windows → ConId → Bool
stays_open fresh gone windows v = (is_fresh v fresh || is_live (find v windows)) && not (list_any (same v) gone)

-- the window was never there
abbrev pub IsNewcomer : Option (ConId × Buffer) → Windows → Buffers → Type 0
IsNewcomer None windows buffers = Unit {0}
IsNewcomer (Some window) windows buffers = (find window.0 windows ≡ None) × (left_of window.0 buffers ≡ None)

abbrev pub HasNoContent : List Placed → Type 0
HasNoContent parts = (v : ConId) → content_size v parts ≡ None

-- each content of the parts is of an open window
abbrev pub ShowsOpen : List Placed → Option (ConId × Buffer) → List ConId → Windows → Type 0
ShowsOpen parts fresh gone windows = (v : ConId) → is_some (content_size v parts) ≡ true → stays_open fresh gone windows v ≡ true

-- ---- those that are left

abbrev pub is_left : ℕ → Option Held → Bool
is_left n None = false
is_left n (Some w) = is_unanswered n w

abbrev pub has_acked : ℕ → Option Held → Bool
has_acked n None = false
has_acked n (Some w) = w.acked_serial == n

-- the least window with a content among the parts that transaction n awaits and that has not answered
abbrev pub least_left : ℕ → Windows → List Placed → Option ConId
least_left n windows [] = None
least_left n windows (p ∷ parts) =
    if is_content p.part && is_left n (find p.con windows) then lesser p.con (least_left n windows parts) else least_left n windows parts
