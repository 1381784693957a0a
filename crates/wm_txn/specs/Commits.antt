-- Commits: the last transaction that has ended, the one that waits, and what each window shows.
use Rattle.std.specs.Prelude.{ℕ, zero, suc, ◌+◌, ◌==◌, Bool, not, if◌then◌else◌, List, [], ◌∷◌, length, Option, None, Some, is_some, unwrap_or}
use Rattle.std.specs.Option.{option_map, option_and_then}
use Rattle.std.specs.Prelude.{nat_le}
use Rattle.wm_base.specs.declared.geometry.Size.{Size}
use Rattle.wm_base.specs.declared.ids.Buffer.{Buffer}
use Rattle.wm_base.specs.declared.ids.ConId.{ConId}
use Rattle.wm_arrange.specs.declared.parts.Placed.{Placed}
use Rattle.wm_txn.specs.History.{Opening, Entry, is_open, last, buffer_up_to}
use Rattle.wm_txn.specs.Schedule.{Transaction, answered, configure, ended, last_parts, past}
use Rattle.wm_txn.specs.declared.answers.Waiting.{Waiting}

-- the greatest number up to n that passes, or 0
abbrev pub greatest : (ℕ → Bool) → ℕ → ℕ
greatest test zero = zero
greatest test (suc n) = if test (suc n) then suc n else greatest test n

abbrev pub has_begun : Opening → List Entry → ℕ → Bool
has_begun o history i = is_some (past o i history)

abbrev pub has_ended : Opening → List Entry → ℕ → Bool
has_ended o history i = is_some (option_and_then (λ transactions. ended o transactions history) (past o i history))

-- the number of the last transaction that has ended
abbrev pub done : Opening → List Entry → ℕ
done o history = greatest (has_ended o history) (length history)

-- the number of the last transaction that has begun
abbrev pub started : Opening → List Entry → ℕ
started o history = greatest (has_begun o history) (length history)

abbrev pub transactions_up_to : Opening → ℕ → List Entry → List Transaction
transactions_up_to o i history = unwrap_or (past o i history) []

-- the transactions that have ended, the last one first
abbrev pub ended_transactions : Opening → List Entry → List Transaction
ended_transactions o history = transactions_up_to o (done o history) history

-- those that have begun: one more where a transaction waits
abbrev pub begun_transactions : Opening → List Entry → List Transaction
begun_transactions o history = transactions_up_to o (started o history) history

abbrev pub prefix_of : List Transaction → ℕ
prefix_of [] = 0
prefix_of (t ∷ transactions) = t.prefix

-- how many entries had come when the last ended transaction began
abbrev pub prefix : Opening → List Entry → ℕ
prefix o history = prefix_of (ended_transactions o history)

-- the arrangement of the last ended transaction
abbrev pub current : Opening → List Entry → List Placed
current o history = last_parts o (ended_transactions o history)

-- the buffer that v shows: the last one that is under a number not above that of the last ended transaction
abbrev pub shown : Opening → ConId → List Entry → Option Buffer
shown o v history = buffer_up_to o (done o history) v history

-- the number and the size of the latest configure of an open window
abbrev pub configured : Opening → ConId → List Entry → Option (ℕ × Size)
configured o v history = if is_open o v history then configure v (begun_transactions o history) else None

-- ---- the transaction that waits

abbrev pub lesser : ConId → Option ConId → Option ConId
lesser v None = Some v
lesser v (Some w) = if nat_le v.0 w.0 then Some v else Some w

-- the least id that passes
abbrev pub least : (ConId → Bool) → List ConId → Option ConId
least test [] = None
least test (v ∷ views) = if test v then lesser v (least test views) else least test views

abbrev pub waiting_for : Opening → ℕ → List Entry → Transaction → Option Waiting
waiting_for o n history t =
    option_map (λ v. record { number = n; least = v; acked = last v history == n }) (least (λ v. not (answered o n history v)) t.awaits)

abbrev pub waiting_transaction : Opening → List Entry → List Transaction → Option Waiting
waiting_transaction o history [] = None
waiting_transaction o history (t ∷ transactions) = waiting_for o (length transactions + 1) history t

-- the number of the transaction that waits, the least of those awaited without their answer, and whether it acknowledged
-- the number
abbrev pub waiting : Opening → List Entry → Option Waiting
waiting o history = if started o history == done o history then None else waiting_transaction o history (begun_transactions o history)
