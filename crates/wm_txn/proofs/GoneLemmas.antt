-- Windows that are gone: what the history says of them stays so, and a window that is closed may go.
use Rattle.std.proofs.Common.{◌≡◌, ℕ, ◌+◌, ◌≤◌, Bool, true, false, cond, [], ◌∷◌, List, length, Option, Some, None, refl, ap, sym, ◌∙◌, subst, arith}
use Rattle.std.specs.BTreeMap.{insert_entry, is_at}
use Rattle.std.specs.Map.{remove_entry}
use Rattle.std.specs.Ordering.{nat_cmp}
use Rattle.wm_base.specs.declared.ids.Buffer.{Buffer}
use Rattle.wm_base.specs.declared.ids.ConId.{ConId}
use Rattle.wm_ids.proofs.EntryLemmas.{found_without, test_same}
use Rattle.wm_forest.specs.Look.{same}
use Rattle.wm_arrange.specs.declared.parts.Placed.{Placed}
use Rattle.wm_txn.specs.History.{Opening, Entry, is_open}
use Rattle.wm_txn.specs.Machine.{TxnValue, tucked}
use Rattle.wm_txn.specs.Schedule.{Transaction}
use Rattle.wm_txn.specs.Stands.{IsGone, IsHeld, IsKept, IsLeft, IsScheduled, Keeps, StandsFor}
use Rattle.wm_txn.specs.Windows.{AreSorted, Buffers, Windows, count_unanswered, find, is_unanswered, left_of, one_if}
use Rattle.wm_txn.specs.declared.held.Held.{Held}
use Rattle.wm_txn.specs.declared.held.Pending.{Pending}
use Rattle.wm_txn.proofs.WindowLemmas.{find_insert, one_id}

-- ---- what the history says of a window that is gone

-- it is closed
pub left_closed : (o : Opening) (history : List Entry) (transactions begun : List Transaction) (v : ConId) (left : Option Buffer) → IsLeft o history transactions begun v left → is_open o v history ≡ false
left_closed o history transactions begun v None h = h.not_open
left_closed o history transactions begun v (Some buffer) h = h.held_is.live_is ∙ h.closed

-- what is held of it may change while it stays closed, with its newest buffer
pub gone_on : (o : Opening) (before after : List Entry) (transactions begun later more : List Transaction) (v : ConId) (buffer : Buffer) (w : Held) → (h : IsGone o before transactions begun v buffer) → IsHeld o after later more v w
    → w.live ≡ false → w.buffer_serial ≡ h.held.buffer_serial → w.buffer ≡ h.held.buffer → length transactions ≤ length later → IsGone o after later more v buffer
gone_on o before after transactions begun later more v buffer w h held closed under newest le = record {
  held = w;
  held_is = held;
  closed = closed;
  done = omega (arith, under, h.done);
  newest_is = newest ∙ h.newest_is;
}

-- what is kept of a window that was found
pub held_at : (o : Opening) (history : List Entry) (transactions begun : List Transaction) (v : ConId) (found : Option Held) (left : Option Buffer) (w : Held) → found ≡ Some w → IsKept o history transactions begun v found left → IsHeld o history transactions begun v w
held_at o history transactions begun v found left w at kept = subst (λ z. IsKept o history transactions begun v z left) at kept

-- ---- a window goes

-- the windows without one
abbrev pub without_window : ConId → Windows → Windows
without_window c windows = remove_entry (is_at (nat_cmp c.0)) windows

find_without : (c v : ConId) (windows : Windows) → AreSorted windows → find v (without_window c windows) ≡ cond (same c v) None (find v windows)
find_without c v windows sorted = found_without c.0 v.0 windows sorted ∙ ap (λ b. cond b None (find v windows)) (test_same c.0 v.0)

count_step : (n : ℕ) (w : Held) (e : ℕ × Held) (windows without : Windows) (found : Option Held) (b : Bool) → cond b (Some e.1) found ≡ Some w → (found ≡ Some w → count_unanswered n without + one_if (is_unanswered n w) ≡ count_unanswered n windows)
    → count_unanswered n (cond b windows (e ∷ without)) + one_if (is_unanswered n w) ≡ count_unanswered n (e ∷ windows)
count_step n w e windows without found true there rest =
    let same_held : e.1 ≡ w = cc in
    let alike : one_if (is_unanswered n e.1) ≡ one_if (is_unanswered n w) = ap (λ z. one_if (is_unanswered n z)) same_held in
    omega arith
count_step n w e windows without found false there rest = let h = rest there in omega arith

count_without : (n : ℕ) (c : ConId) (w : Held) (windows : Windows) → find c windows ≡ Some w → count_unanswered n (without_window c windows) + one_if (is_unanswered n w) ≡ count_unanswered n windows
count_without n c w [] there = cc
count_without n c w (e ∷ windows) there =
    count_step n w e windows (without_window c windows) (find c windows) (is_at (nat_cmp c.0) e.0) there (count_without n c w windows)

module _ (o : Opening) (history : List Entry) (transactions begun : List Transaction) (c : ConId) (w : Held) (windows : Windows) (buffers : Buffers) (at : find c windows ≡ Some w) (closed : w.live ≡ false) where
  kept_by : (v : ConId) (b : Bool) → same c v ≡ b → w.buffer_serial ≤ length transactions → ((z : ConId) → IsKept o history transactions begun z (find z windows) (left_of z buffers))
      → IsKept o history transactions begun v (cond b None (find v windows)) (cond b (Some w.buffer) (left_of v buffers))
  kept_by v true one done each =
      subst (λ z. IsGone o history transactions begun z w.buffer) (one_id c v one)
      (record { held = w; held_is = held_at o history transactions begun c (find c windows) (left_of c buffers) w at (each c); closed = closed; done = done; newest_is = refl })
  kept_by v false other done each = each v

  kept_gone : (v : ConId) → AreSorted windows → w.buffer_serial ≤ length transactions → ((z : ConId) → IsKept o history transactions begun z (find z windows) (left_of z buffers))
      → IsKept o history transactions begun v (find v (without_window c windows)) (left_of v (insert_entry nat_cmp buffers c.0 w.buffer))
  kept_gone v sorted done each =
      subst (λ z. IsKept o history transactions begun v (find v (without_window c windows)) z) (sym (find_insert c v w.buffer buffers))
      (subst (λ z. IsKept o history transactions begun v z (cond (same c v) (Some w.buffer) (left_of v buffers))) (sym (find_without c v windows sorted)) (kept_by v (same c v) refl done each))

  keeps_gone : (number prefix : ℕ) (current : List Placed) → w.buffer_serial ≤ number → AreSorted (without_window c windows) → Keeps o history transactions begun number prefix current windows buffers
      → Keeps o history transactions begun number prefix current (without_window c windows) (insert_entry nat_cmp buffers c.0 w.buffer)
  keeps_gone number prefix current done sorted k = record {
    number_is = k.number_is;
    prefix_is = k.prefix_is;
    current_is = k.current_is;
    each = λ v. kept_gone v k.sorted (omega (arith, k.number_is)) k.each;
    sorted = sorted;
    open_contents = k.open_contents;
  }

none_awaited : (c : ConId) (w : Held) (windows : Windows) → find c windows ≡ Some w → w.live ≡ false → (n : ℕ) → count_unanswered n (without_window c windows) ≡ count_unanswered n windows
none_awaited c w windows at closed n =
    let none : one_if (is_unanswered n w) ≡ 0 = rw closed refl in
    let counted = count_without n c w windows at in
    omega arith

module _ (o : Opening) (history : List Entry) (d : TxnValue) (c : ConId) (w : Held) (at : find c d.windows ≡ Some w) (closed : w.live ≡ false) where
  schedule_gone : (transactions begun : List Transaction) (waiting : Option Pending) → IsScheduled o history transactions begun waiting d → IsScheduled o history transactions begun waiting (tucked c w d)
  schedule_gone transactions begun None s = s
  schedule_gone transactions begun (Some p) s = record {
    t = s.t;
    begun_are = s.begun_are;
    waiting_is = s.waiting_is;
    prefix_is = s.prefix_is;
    parts_are = s.parts_are;
    awaits_are = s.awaits_are;
    left_is = s.left_is ∙ sym (none_awaited c w d.windows at closed (length transactions + 1));
    some_left = s.some_left;
  }

  -- the machine stands where the closed window c, whose newest buffer is done, goes
  pub stands_tucked : w.buffer_serial ≤ d.number → AreSorted (without_window c d.windows) → StandsFor o history d → StandsFor o history (tucked c w d)
  stands_tucked done sorted s = record {
    transactions = s.transactions;
    begun = s.begun;
    keeps = keeps_gone o history s.transactions s.begun c w d.windows d.gone at closed d.number d.prefix d.current.parts done sorted s.keeps;
    newest_is = s.newest_is;
    schedule = schedule_gone s.transactions s.begun d.waiting s.schedule;
    within = s.within;
  }
