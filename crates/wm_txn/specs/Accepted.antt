-- What is accepted of a history: an acknowledgement or a buffer that is refused counts as an entry that does nothing.
use Rattle.std.specs.Prelude.{ℕ, ◌==◌, nat_lt, Bool, false, not, ◌&&◌, ◌||◌, if◌then◌else◌, List, [], ◌∷◌, Option, None, Some, Result, Ok, Err}
use Rattle.wm_base.specs.declared.geometry.Size.{Size}
use Rattle.wm_base.specs.declared.ids.Buffer.{Buffer}
use Rattle.wm_base.specs.declared.ids.ConId.{ConId}
use Rattle.wm_txn.specs.History.{Opening, Entry, Arranged, Acked, Gave, Deadline, Still, is_open, last}
use Rattle.wm_txn.specs.Schedule.{configure}
use Rattle.wm_txn.specs.Commits.{begun_transactions, ended_transactions}
use Rattle.wm_txn.specs.declared.answers.AckRefusal.{AckRefusal}
use Rattle.wm_txn.specs.declared.answers.AckRefusal.TheVariants as ack
use Rattle.wm_txn.specs.declared.answers.BufferRefusal.{BufferRefusal}
use Rattle.wm_txn.specs.declared.answers.BufferRefusal.TheVariants as buffers

abbrev pub is_serial : ℕ → Option (ℕ × Size) → Bool
is_serial serial None = false
is_serial serial (Some configure) = configure.0 == serial

-- an acknowledgement is good where its serial is that of the latest configure of v, or of the latest by a transaction
-- that has ended, and is above the last one
abbrev pub is_due : Opening → ConId → ℕ → List Entry → Bool
is_due o v serial history =
    (is_serial serial (configure v (begun_transactions o history)) || is_serial serial (configure v (ended_transactions o history)))
    && nat_lt (last v history) serial

abbrev pub is_empty : Size → Bool
is_empty size = size.w == 0 || size.h == 0

-- an entry as it is accepted after a history
abbrev pub accept : Opening → Entry → List Entry → Entry
accept o (Acked v serial) history = if is_open o v history && is_due o v serial history then Acked v serial else Still
accept o (Gave v buffer) history = if is_open o v history && not (is_empty buffer.size) then Gave v buffer else Still
accept o (Arranged newest fresh gone) history = Arranged newest fresh gone
accept o (Deadline number) history = Deadline number
accept o Still history = Still

abbrev pub with_accepted : Opening → Entry → List Entry → List Entry
with_accepted o entry history = accept o entry history ∷ history

abbrev pub accepted : Opening → List Entry → List Entry
accepted o [] = []
accepted o (entry ∷ history) = with_accepted o entry (accepted o history)

-- what an acknowledgement is answered, after what was accepted
abbrev pub ack_answer : Opening → ConId → ℕ → List Entry → Result (Unit {0}) AckRefusal
ack_answer o v serial history =
    if not (is_open o v history) then Err ack.NoView
    else if is_due o v serial history then Ok tt
    else Err (ack.BadSerial serial (last v history))

-- what a buffer is answered, after what was accepted
abbrev pub buffer_answer : Opening → ConId → Buffer → List Entry → Result (Unit {0}) BufferRefusal
buffer_answer o v buffer history =
    if not (is_open o v history) then Err buffers.NoView
    else if is_empty buffer.size then Err buffers.Empty
    else Ok tt
