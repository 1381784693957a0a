-- The schedule of transactions: where in the whole history each one begins and ends, and whom it configures and awaits.
use Rattle.std.specs.Prelude.{ℕ, zero, suc, ◌+◌, ◌==◌, nat_le, Bool, true, false, not, ◌&&◌, ◌||◌, if◌then◌else◌, List, [], ◌∷◌, length, Option, None, Some}
use Rattle.std.specs.List.{list_all}
use Rattle.std.specs.Option.{option_map, option_and_then}
use Rattle.wm_base.specs.declared.geometry.Size.{Size}
use Rattle.wm_base.specs.declared.ids.ConId.{ConId}
use Rattle.wm_arrange.specs.declared.parts.Placed.{Placed}
use Rattle.wm_arrange.specs.Same.{same_parts}
use Rattle.wm_arrange.specs.Sizes.{content_size, is_content}
use Rattle.wm_txn.specs.History.{Opening, Entry, Arranged, Acked, Gave, Deadline, Still, arrangement, is_open, gave}

-- a transaction that has begun: how many entries had come then, its arrangement, and the windows that it awaits. Those
-- that begun before it stand behind it in a list, so its number is one more than the length of that list
pub record Transaction : Type 0 where
  pub prefix : ℕ
  pub parts : List Placed
  pub awaits : List ConId

-- ---- what a window is configured with

abbrev pub same_size : Size → Size → Bool
same_size a b = a.w == b.w && a.h == b.h

-- a content of this size is not what was configured last
abbrev pub is_new : Option Size → Option (ℕ × Size) → Bool
is_new None before = false
is_new (Some size) None = true
is_new (Some size) (Some before) = not (same_size before.1 size)

-- the latest configure of v: the number of the transaction, and the size; None where none configured it
abbrev pub configure : ConId → List Transaction → Option (ℕ × Size)
configure v [] = None
configure v (t ∷ transactions) =
    if is_new (content_size v t.parts) (configure v transactions)
    then option_map (λ size. (length transactions + 1, size)) (content_size v t.parts)
    else configure v transactions

-- a transaction with this arrangement configures v: it has a content whose size is not the one that was configured last
abbrev pub configures : List Transaction → List Placed → ConId → Bool
configures transactions parts v = is_new (content_size v parts) (configure v transactions)

-- the windows with a content that pass, in order
abbrev pub contents : (ConId → Bool) → List Placed → List ConId
contents test [] = []
contents test (p ∷ parts) = if is_content p.part && test p.con then p.con ∷ contents test parts else contents test parts

-- ---- where a transaction begins and ends

abbrev pub or_here : Option (List Entry) → Bool → List Entry → Option (List Entry)
or_here (Some found) passes history = Some found
or_here None passes history = if passes then Some history else None

-- the shortest beginning of the history that has n entries or more and passes the test
abbrev pub first_when : (List Entry → Bool) → ℕ → List Entry → Option (List Entry)
first_when test n [] = or_here None (nat_le n 0 && test []) []
first_when test n (entry ∷ history) =
    or_here (first_when test n history) (nat_le n (length history + 1) && test (entry ∷ history)) (entry ∷ history)

-- the arrangement of the last of these transactions, or that of the opening
abbrev pub last_parts : Opening → List Transaction → List Placed
last_parts o [] = o.parts
last_parts o (t ∷ transactions) = t.parts

-- the arrangement after a beginning differs from that of the last transaction
abbrev pub differs : Opening → List Transaction → List Entry → Bool
differs o transactions history = not (same_parts (arrangement o history) (last_parts o transactions))

-- the transaction that begins after this beginning of the history
abbrev pub transaction_from : Opening → List Transaction → List Entry → Transaction
transaction_from o transactions history = record {
  prefix = length history;
  parts = arrangement o history;
  awaits = contents (configures transactions (arrangement o history)) (arrangement o history);
}

-- v gave a buffer under n, or is closed
abbrev pub answered : Opening → ℕ → List Entry → ConId → Bool
answered o n history v = gave n v history || not (is_open o v history)

abbrev pub names : ℕ → Entry → Bool
names n (Deadline number) = number == n
names n (Arranged newest fresh gone) = false
names n (Acked v serial) = false
names n (Gave v buffer) = false
names n Still = false

-- the history ends with a deadline that names n, and has more entries than the prefix
abbrev pub is_named : ℕ → ℕ → List Entry → Bool
is_named n prefix [] = false
is_named n prefix (entry ∷ history) = names n entry && nat_le prefix (length history)

-- transaction n may end here: each one awaited has answered, or a deadline names it
abbrev pub may_end : Opening → ℕ → Transaction → List Entry → Bool
may_end o n t history = list_all (answered o n history) t.awaits || is_named n t.prefix history

-- where the last of these transactions ended: at the first beginning, not before its own, at which it may
abbrev pub ended : Opening → List Transaction → List Entry → Option (List Entry)
ended o [] history = Some []
ended o (t ∷ transactions) history = first_when (may_end o (length transactions + 1) t) t.prefix history

-- where the one after them began: at the first beginning, not before the last one's end, whose arrangement differs
abbrev pub begun : Opening → List Transaction → List Entry → Option (List Entry)
begun o transactions history = option_and_then (λ at. first_when (differs o transactions) (length at) history) (ended o transactions history)

abbrev pub next : Opening → List Entry → Option (List Transaction) → Option (List Transaction)
next o history None = None
next o history (Some transactions) = option_map (λ at. transaction_from o transactions at ∷ transactions) (begun o transactions history)

-- the first i transactions, the last one first, where they have begun in the history
abbrev pub past : Opening → ℕ → List Entry → Option (List Transaction)
past o zero history = Some []
past o (suc i) history = next o history (past o i history)
