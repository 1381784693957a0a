-- The machine of transactions: what it keeps, and its steps. It never looks back.
use Rattle.std.specs.Prelude.{ℕ, ◌+◌, ◌-◌, ◌==◌, nat_le, nat_lt, Bool, false, not, ◌&&◌, ◌||◌, if◌then◌else◌, List, Option, None, Some, Result, Ok, Err, is_ok, refl}
use Rattle.std.specs.BTreeMap.{insert_entry, is_at}
use Rattle.std.specs.Coded.{Coded, code_by, coded×, coded_ℕ, coded_list, coded_option}
use Rattle.std.specs.Map.{remove_entry}
use Rattle.std.specs.Ordering.{nat_cmp}
use Rattle.std.specs.Option.{option_map}
use Rattle.wm_base.specs.declared.geometry.Size.{Size}
use Rattle.wm_base.specs.declared.ids.Buffer.{Buffer}
use Rattle.wm_base.specs.declared.ids.ConId.{ConId}
use Rattle.wm_base.specs.contracts.ids.Buffer as buffer
use Rattle.wm_arrange.specs.contracts.parts.Arrangement as arrangement
use Rattle.wm_txn.specs.contracts.held.Held as held
use Rattle.wm_txn.specs.contracts.held.Pending as pending
use Rattle.wm_arrange.specs.declared.parts.Arrangement.{Arrangement}
use Rattle.wm_arrange.specs.Same.{same_parts}
use Rattle.wm_txn.specs.Accepted.{is_empty}
use Rattle.wm_txn.specs.declared.answers.Waiting.{Waiting}
use Rattle.wm_txn.specs.declared.answers.AckRefusal.{AckRefusal}
use Rattle.wm_txn.specs.declared.answers.AckRefusal.TheVariants as ack
use Rattle.wm_txn.specs.declared.answers.BufferRefusal.{BufferRefusal}
use Rattle.wm_txn.specs.declared.answers.BufferRefusal.TheVariants as buffers
use Rattle.wm_txn.specs.declared.held.Held.{Held}
use Rattle.wm_txn.specs.declared.held.Pending.{Pending}
use Rattle.wm_txn.specs.Windows.{Buffers, Windows, acked_with, configure_all, buffered_with, close_all, committed_serial, count_all, count_closed, find, has_acked, is_unanswered, least_left, left_of, one_if, open_fresh, put, shown_by}

-- ---- the machine

pub record TxnValue : Type 0 where
  -- the windows that are open, and those closed ones whose newest buffer may still be under a number that is not done, by id
  pub windows : Windows
  -- the other windows that were ever open, by id: what each shows
  pub gone : Buffers
  -- the last transaction that has ended: its number, how many entries had come when it began, and its arrangement
  pub number : ℕ
  pub prefix : ℕ
  pub current : Arrangement
  -- the one that has begun and not ended
  pub waiting : Option Pending
  -- an arrangement that came since
  pub newest : Option Arrangement
  -- how many windows the waiting one awaits that have not answered
  pub left : ℕ

abbrev pub commit_pending : Option Pending → TxnValue → TxnValue
commit_pending None d = d
commit_pending (Some p) d = record d { number = d.number + 1; prefix = p.prefix; current = p.arrangement; waiting = None }

-- the waiting transaction ends
abbrev pub committed : TxnValue → TxnValue
committed d = commit_pending d.waiting d

-- a transaction with this arrangement begins
abbrev pub began : ℕ → Arrangement → TxnValue → TxnValue
began steps a d = record d {
  windows = configure_all (d.number + 1) a.parts d.windows;
  waiting = Some (record { prefix = steps; arrangement = a });
  left = count_all (d.number + 1) a.parts d.windows;
}

-- it ends where it awaits nobody
abbrev pub finished : TxnValue → TxnValue
finished d = if d.left == 0 then committed d else d

abbrev pub next_with : ℕ → Option Arrangement → TxnValue → TxnValue
next_with steps None d = d
next_with steps (Some a) d = if same_parts a.parts d.current.parts then d else finished (began steps a d)

-- the next transaction begins where the newest arrangement differs
abbrev pub followed : ℕ → TxnValue → TxnValue
followed steps d = next_with steps d.newest (record d { newest = None })

-- the machine after an entry, where so many entries have come with it
abbrev pub settled : ℕ → TxnValue → TxnValue
settled steps d = if d.left == 0 then followed steps (committed d) else d

-- ---- what each entry does

-- a window is mapped
abbrev pub opened : Option (ConId × Buffer) → TxnValue → TxnValue
opened fresh d = record d { windows = open_fresh fresh d.windows }

-- windows close, and an arrangement comes
abbrev pub arranged : Arrangement → List ConId → TxnValue → TxnValue
arranged newest gone d = record d {
  windows = close_all gone d.windows;
  newest = Some newest;
  left = d.left - count_closed (d.number + 1) gone d.windows;
}

abbrev pub ack_found : ConId → ℕ → Option Held → TxnValue → TxnValue
ack_found v serial None d = d
ack_found v serial (Some w) d = record d { windows = put v (acked_with serial w) d.windows }

abbrev pub acked : ConId → ℕ → TxnValue → TxnValue
acked v serial d = ack_found v serial (find v d.windows) d

-- the serial is that of the latest configure, or of the latest by a transaction that has ended, and is above the last one
abbrev pub is_due_by : ℕ → ℕ → Held → Bool
is_due_by done serial w = (serial == w.configure_serial || serial == committed_serial done w) && nat_lt w.acked_serial serial

abbrev pub judge_serial : ℕ → ℕ → Held → Result (Unit {0}) AckRefusal
judge_serial done serial w = if is_due_by done serial w then Ok tt else Err (ack.BadSerial serial w.acked_serial)

abbrev pub judge_ack : ℕ → ℕ → Option Held → Result (Unit {0}) AckRefusal
judge_ack done serial None = Err ack.NoView
judge_ack done serial (Some w) = if not w.live then Err ack.NoView else judge_serial done serial w

abbrev pub judge_size : Size → Result (Unit {0}) BufferRefusal
judge_size size = if is_empty size then Err buffers.Empty else Ok tt

abbrev pub judge_buffer : Buffer → Option Held → Result (Unit {0}) BufferRefusal
judge_buffer buffer None = Err buffers.NoView
judge_buffer buffer (Some w) =
    if not w.live then Err buffers.NoView
    else judge_size buffer.size

-- the buffer is the answer that transaction n awaited
abbrev pub answers : ℕ → Held → Held → Bool
answers n before after = is_unanswered n before && not (is_unanswered n after)

abbrev pub buffer_found : ConId → Buffer → Option Held → TxnValue → TxnValue
buffer_found v buffer None d = d
buffer_found v buffer (Some w) d = record d {
  windows = put v (buffered_with d.number buffer w) d.windows;
  left = d.left - one_if (answers (d.number + 1) w (buffered_with d.number buffer w));
}

abbrev pub buffered : ConId → Buffer → TxnValue → TxnValue
buffered v buffer d = buffer_found v buffer (find v d.windows) d

-- the machine after an acknowledgement or a buffer: as it was where it is refused
abbrev pub ack_step : ConId → ℕ → TxnValue → TxnValue
ack_step v serial d = if is_ok (judge_ack d.number serial (find v d.windows)) then acked v serial d else d

abbrev pub buffer_step : ℕ → ConId → Buffer → TxnValue → TxnValue
buffer_step steps v buffer d = if is_ok (judge_buffer buffer (find v d.windows)) then settled steps (buffered v buffer d) else d

-- the deadline names the waiting transaction and comes after its beginning
abbrev pub is_over : ℕ → ℕ → ℕ → Option Pending → Bool
is_over place n number None = false
is_over place n number (Some p) = n == number + 1 && nat_le p.prefix place

abbrev pub timed_out : ℕ → ℕ → TxnValue → TxnValue
timed_out place n d = if is_over place n d.number d.waiting then settled (place + 1) (record d { left = 0 }) else d

-- what is left of the closed window v is its newest buffer
abbrev pub tucked : ConId → Held → TxnValue → TxnValue
tucked v w d = record d {
  windows = remove_entry (is_at (nat_cmp v.0)) d.windows;
  gone = insert_entry nat_cmp d.gone v.0 w.buffer;
}

abbrev pub prefix_with : Option Pending → ℕ → ℕ
prefix_with None before = before
prefix_with (Some p) before = p.prefix

-- how many entries had come when the last one began
abbrev pub last_prefix : TxnValue → ℕ
last_prefix d = prefix_with d.waiting d.prefix

-- ---- what it tells

abbrev pub shown_or : ℕ → Option Held → Option Buffer → Option Buffer
shown_or done None left = left
shown_or done (Some w) left = Some (shown_by done w)

-- the buffer that v shows, as it is kept or as it was left
abbrev pub shown_of : ConId → TxnValue → Option Buffer
shown_of v d = shown_or d.number (find v d.windows) (left_of v d.gone)

abbrev pub configured_of : Option Held → Option (ℕ × Size)
configured_of None = None
configured_of (Some w) = if w.live && not (w.configure_serial == 0) then Some (w.configure_serial, w.configured_size) else None

abbrev pub waiting_in : ℕ → Windows → Option Pending → Option Waiting
waiting_in n windows None = None
waiting_in n windows (Some p) =
    option_map (λ v. record { number = n; least = v; acked = has_acked n (find v windows) }) (least_left n windows p.arrangement.parts)

-- the arrangement after the history: the newest one, or that of the transaction that waits, or what is done
abbrev pub newest_or : Option Arrangement → Option Pending → Arrangement → Arrangement
newest_or (Some newest) waiting current = newest
newest_or None (Some p) current = p.arrangement
newest_or None None current = current

abbrev pub newest_of : TxnValue → Arrangement
newest_of d = newest_or d.newest d.waiting d.current

-- ---- how the logic stores it

abbrev pub txn_code : Coded TxnValue
txn_code =
    code_by (((Windows × Buffers) × (ℕ × ℕ)) × (Arrangement × (Option Pending × (Option Arrangement × ℕ))))
    (coded× (coded× (coded× (coded_list (coded× coded_ℕ held.the_row.coded)) (coded_list (coded× coded_ℕ buffer.the_row.coded))) (coded× coded_ℕ coded_ℕ)) (coded× arrangement.the_row.coded (coded× (coded_option pending.the_row.coded) (coded× (coded_option arrangement.the_row.coded) coded_ℕ))))
    (λ d. (((d.windows, d.gone), (d.number, d.prefix)), (d.current, (d.waiting, (d.newest, d.left)))))
    (λ p. record { windows = p.0.0.0; gone = p.0.0.1; number = p.0.1.0; prefix = p.0.1.1; current = p.1.0; waiting = p.1.1.0; newest = p.1.1.1.0; left = p.1.1.1.1 }) (λ _. refl)
