-- What is kept of the windows is what the history says after one more entry.
use Rattle.std.proofs.Common.{◌≡◌, ℕ, ◌+◌, ◌≤◌, ◌<◌, Bool, true, false, cond, ◌||◌, eqb, leb, ◌⊎◌, inl, inr, List, ◌∷◌, length, Option, Some, None, refl, ap, sym, ◌∙◌, subst, arith}
use Rattle.std.proofs.lemmas.Bool.{eq-eqb, eqb-true, le-leb, lt-leb, leb-true, leb-false, or_cases}
use Rattle.std.proofs.lemmas.Map.{keys-set_value}
use Rattle.std.specs.BTreeMap.{is_at}
use Rattle.std.specs.List.Sorted.{IsStrictlySortedBy}
use Rattle.std.specs.Ordering.{nat_cmp}
use Rattle.std.proofs.lemmas.Bool.Decides.{nat_tests}
use Rattle.wm_base.specs.declared.ids.Buffer.{Buffer}
use Rattle.wm_base.specs.declared.ids.ConId.{ConId}
use Rattle.wm_forest.specs.Look.{same}
use Rattle.wm_arrange.specs.declared.parts.Placed.{Placed}
use Rattle.wm_txn.specs.History.{Opening, Entry, Acked, Gave, Deadline, Still, buffer_up_to, gave, is_open, last, under_up_to}
use Rattle.wm_txn.specs.Windows.{Buffers, Windows, find, left_of, put, acked_with, buffered_with, shown_by}
use Rattle.wm_txn.specs.Schedule.{Transaction, configure}
use Rattle.wm_txn.specs.Stands.{AreOpen, IsHeld, IsKept, IsNumbered, Keeps, serial_of}
use Rattle.wm_txn.specs.declared.held.Held.{Held}
use Rattle.wm_txn.proofs.GoneLemmas.{gone_on}
use Rattle.wm_txn.proofs.WindowLemmas.{one_id, find_put}

pub same_id : (v : ConId) → same v v ≡ true
same_id v = eq-eqb v.0 v.0 refl

-- ---- an entry that says nothing of v

-- after both histories the same holds of v
pub record Agree (o : Opening) (before after : List Entry) (v : ConId) : Type 0 where
  pub opens : is_open o v after ≡ is_open o v before
  pub lasts : last v after ≡ last v before
  pub buffers : (n : ℕ) → buffer_up_to o n v after ≡ buffer_up_to o n v before
  pub gifts : (n : ℕ) → gave n v after ≡ gave n v before
  pub unders : (n : ℕ) → under_up_to n v after ≡ under_up_to n v before

held_same : (o : Opening) (before after : List Entry) (transactions begun : List Transaction) (v : ConId) (w : Held) → Agree o before after v → IsHeld o before transactions begun v w → IsHeld o after transactions begun v w
held_same o before after transactions begun v w a h = record {
  live_is = a.opens ∙ h.live_is;
  last_is = a.lasts ∙ h.last_is;
  latest_is = h.latest_is;
  before_is = h.before_is;
  newest_is = λ n under. a.buffers n ∙ h.newest_is n under;
  saved_is = λ above. a.buffers (length transactions) ∙ h.saved_is above;
  gave_is = λ n above. a.gifts n ∙ h.gave_is n above;
  under_le = h.under_le;
  acked_le = h.acked_le;
  serial_le = h.serial_le;
  placed_le = h.placed_le;
  numbers = record {
    acked_done = h.numbers.acked_done;
    shown_le = omega (arith, a.unders (length transactions), h.numbers.shown_le);
    newest_under = λ n under. a.unders n ∙ h.numbers.newest_under n under;
    gave_under = λ n gave_it. h.numbers.gave_under n (sym (a.gifts n) ∙ gave_it);
    gave_shown = λ n gave_it early. omega (arith, a.unders (length transactions), h.numbers.gave_shown n (sym (a.gifts n) ∙ gave_it) early);
  };
}

pub kept_same : (o : Opening) (before after : List Entry) (transactions begun : List Transaction) (v : ConId) (found : Option Held) (left : Option Buffer) → Agree o before after v → IsKept o before transactions begun v found left → IsKept o after transactions begun v found left
kept_same o before after transactions begun v None None a h = record {
  not_open = a.opens ∙ h.not_open;
  no_last = a.lasts ∙ h.no_last;
  no_configure = h.no_configure;
  no_buffer = λ n. a.buffers n ∙ h.no_buffer n;
  no_gift = λ n. a.gifts n ∙ h.no_gift n;
  no_under = λ n. a.unders n ∙ h.no_under n;
}
kept_same o before after transactions begun v None (Some buffer) a h =
    gone_on o before after transactions begun transactions begun v buffer h.held h (held_same o before after transactions begun v h.held a h.held_is) h.closed refl refl (omega arith)
kept_same o before after transactions begun v (Some w) left a h = held_same o before after transactions begun v w a h

-- where the windows stay and the entry says nothing of any
pub keeps_same : (o : Opening) (before after : List Entry) (transactions begun : List Transaction) (number prefix : ℕ) (current : List Placed) (windows : Windows) (buffers : Buffers) → ((v : ConId) → Agree o before after v) → AreOpen o after
    → Keeps o before transactions begun number prefix current windows buffers → Keeps o after transactions begun number prefix current windows buffers
keeps_same o before after transactions begun number prefix current windows buffers agree are_open k = record {
  number_is = k.number_is;
  prefix_is = k.prefix_is;
  current_is = k.current_is;
  each = λ v. kept_same o before after transactions begun v (find v windows) (left_of v buffers) (agree v) (k.each v);
  sorted = k.sorted;
  open_contents = are_open;
}

pub agree_still : (o : Opening) (history : List Entry) (v : ConId) → Agree o history (Still ∷ history) v
agree_still o history v = record { opens = refl; lasts = refl; buffers = λ n. refl; gifts = λ n. refl; unders = λ n. refl }

pub agree_deadline : (o : Opening) (history : List Entry) (number : ℕ) (v : ConId) → Agree o history (Deadline number ∷ history) v
agree_deadline o history number v = record { opens = refl; lasts = refl; buffers = λ n. refl; gifts = λ n. refl; unders = λ n. refl }

pub agree_acked : (o : Opening) (history : List Entry) (c : ConId) (serial : ℕ) (v : ConId) → same c v ≡ false → Agree o history (Acked c serial ∷ history) v
agree_acked o history c serial v other = record { opens = refl; lasts = rw other refl; buffers = λ n. refl; gifts = λ n. refl; unders = λ n. refl }

pub agree_gave : (o : Opening) (history : List Entry) (c : ConId) (buffer : Buffer) (v : ConId) → same c v ≡ false → Agree o history (Gave c buffer ∷ history) v
agree_gave o history c buffer v other = record { opens = refl; lasts = refl; buffers = λ n. rw other refl; gifts = λ n. rw other refl; unders = λ n. rw other refl }

-- ---- a window that acknowledges

pub held_acked : (o : Opening) (history : List Entry) (transactions begun : List Transaction) (v : ConId) (serial : ℕ) (w : Held) → IsHeld o history transactions begun v w → w.acked_serial < serial → serial ≤ w.configure_serial → (serial ≤ length transactions → serial ≤ serial_of (configure v transactions))
    → IsHeld o (Acked v serial ∷ history) transactions begun v (acked_with serial w)
held_acked o history transactions begun v serial w h above due due_done = record {
  live_is = h.live_is;
  last_is = rw (same_id v, h.last_is) (omega arith);
  latest_is = h.latest_is;
  before_is = h.before_is;
  newest_is = h.newest_is;
  saved_is = h.saved_is;
  gave_is = h.gave_is;
  under_le = omega (arith, h.under_le);
  acked_le = due;
  serial_le = h.serial_le;
  placed_le = h.placed_le;
  numbers = record {
    acked_done = due_done;
    shown_le = h.numbers.shown_le;
    newest_under = h.numbers.newest_under;
    gave_under = h.numbers.gave_under;
    gave_shown = h.numbers.gave_shown;
  };
}

kept_put : (o : Opening) (before after : List Entry) (transactions begun : List Transaction) (c : ConId) (w new : Held) (windows : Windows) (left : Option Buffer) → find c windows ≡ Some w → IsHeld o after transactions begun c new
    → (v : ConId) → (same c v ≡ false → Agree o before after v) → IsKept o before transactions begun v (find v windows) left → (b : Bool) → same c v ≡ b → IsKept o after transactions begun v (cond b (Some new) (find v windows)) left
kept_put o before after transactions begun c w new windows left at held v agree kept true one = subst (λ z. IsHeld o after transactions begun z new) (one_id c v one) held
kept_put o before after transactions begun c w new windows left at held v agree kept false other = kept_same o before after transactions begun v (find v windows) left (agree other) kept

-- where one window is kept anew
pub keeps_put : (o : Opening) (before after : List Entry) (transactions begun : List Transaction) (number prefix : ℕ) (current : List Placed) (c : ConId) (w new : Held) (windows : Windows) (buffers : Buffers) → find c windows ≡ Some w
    → IsHeld o after transactions begun c new → ((v : ConId) → same c v ≡ false → Agree o before after v) → AreOpen o after → Keeps o before transactions begun number prefix current windows buffers
    → Keeps o after transactions begun number prefix current (put c new windows) buffers
keeps_put o before after transactions begun number prefix current c w new windows buffers at held agree are_open k = record {
  number_is = k.number_is;
  prefix_is = k.prefix_is;
  current_is = k.current_is;
  each = λ v.
      let Kept : Option Held → Type 0 = λ z. IsKept o after transactions begun v z (left_of v buffers) in
      subst Kept (sym (find_put c v new w windows at)) (kept_put o before after transactions begun c w new windows (left_of v buffers) at held v (agree v) (k.each v) (same c v) refl);
  sorted = subst (IsStrictlySortedBy nat_cmp) (sym (keys-set_value (is_at (nat_cmp c.0)) windows new)) k.sorted;
  open_contents = are_open;
}

-- ---- a window that gives a buffer

older_buffer : (o : Opening) (history : List Entry) (transactions begun : List Transaction) (v : ConId) (w : Held) → IsHeld o history transactions begun v w → (b : Bool) → leb w.buffer_serial (length transactions) ≡ b
    → buffer_up_to o (length transactions) v history ≡ Some (cond b w.buffer w.saved_buffer)
older_buffer o history transactions begun v w h true at = h.newest_is (length transactions) (leb-true w.buffer_serial (length transactions) at)
older_buffer o history transactions begun v w h false at = h.saved_is (leb-false w.buffer_serial (length transactions) at)

module _ (history : List Entry) (transactions : List Transaction) (v : ConId) (buffer : Buffer) (acked under : ℕ) (last_is : last v history ≡ acked) (under_le : under ≤ acked) (h : IsNumbered history transactions v acked under) where
  gave_now : (n : ℕ) → gave n v (Gave v buffer ∷ history) ≡ true → (acked ≡ n) ⊎ (gave n v history ≡ true)
  gave_now n gave_it = elim (or_cases (eqb acked n) (gave n v history) (rw (same_id v, last_is) at gave_it)) [
    | inl here ↦ inl (eqb-true acked n here)
    | inr before ↦ inr before
  ]

  now_under : (n : ℕ) → gave n v (Gave v buffer ∷ history) ≡ true → n ≤ acked
  now_under n gave_it = elim (gave_now n gave_it) [
    | inl here ↦ omega arith
    | inr before ↦ omega (arith, h.gave_under n before)
  ]

  under_now : (n : ℕ) (b : Bool) → leb acked n ≡ b → under_up_to n v (Gave v buffer ∷ history) ≡ cond b acked (under_up_to n v history)
  under_now n b at = rw (same_id v, last_is, at) refl

  shown_now : (b : Bool) → leb acked (length transactions) ≡ b → cond b acked (under_up_to (length transactions) v history) ≤ serial_of (configure v transactions)
  shown_now true at = h.acked_done (leb-true acked (length transactions) at)
  shown_now false at = h.shown_le

  gave_shown_now : (n : ℕ) → gave n v (Gave v buffer ∷ history) ≡ true → n ≤ length transactions → (b : Bool) → leb acked (length transactions) ≡ b → n ≤ cond b acked (under_up_to (length transactions) v history)
  gave_shown_now n gave_it early true at = now_under n gave_it
  gave_shown_now n gave_it early false at =
      let later = leb-false acked (length transactions) at in
      elim (gave_now n gave_it) [
        | inl here ↦ absurd (omega arith)
        | inr before ↦ h.gave_shown n before early
      ]

  numbers_buffered : IsNumbered (Gave v buffer ∷ history) transactions v acked acked
  numbers_buffered = record {
    acked_done = h.acked_done;
    shown_le = omega (arith, under_now (length transactions) (leb acked (length transactions)) refl, shown_now (leb acked (length transactions)) refl);
    newest_under = λ n le. under_now n true (le-leb acked n le);
    gave_under = now_under;
    gave_shown = λ n gave_it early. omega (arith, under_now (length transactions) (leb acked (length transactions)) refl, gave_shown_now n gave_it early (leb acked (length transactions)) refl);
  }

pub held_buffered : (o : Opening) (history : List Entry) (transactions begun : List Transaction) (v : ConId) (buffer : Buffer) (number : ℕ) (w : Held) → IsHeld o history transactions begun v w → number ≡ length transactions → length begun ≤ length transactions + 1
    → IsHeld o (Gave v buffer ∷ history) transactions begun v (buffered_with number buffer w)
held_buffered o history transactions begun v buffer number w h number_is few = record {
  live_is = h.live_is;
  last_is = h.last_is;
  latest_is = h.latest_is;
  before_is = h.before_is;
  newest_is = λ n under. rw (same_id v, h.last_is, le-leb w.acked_serial n under) refl;
  saved_is = λ above. rw (same_id v, h.last_is, lt-leb w.acked_serial (length transactions) above) (older_buffer o history transactions begun v w h (leb w.buffer_serial (length transactions)) refl ∙ ap (λ z. Some (shown_by z w)) (sym number_is));
  gave_is = λ n above. rw (same_id v, h.last_is, h.gave_is n above) (newer n above);
  under_le = omega arith;
  acked_le = h.acked_le;
  serial_le = h.serial_le;
  placed_le = h.placed_le;
  numbers = numbers_buffered history transactions v buffer w.acked_serial w.buffer_serial h.last_is h.under_le h.numbers;
}
  where
    newer : (n : ℕ) → length transactions < n → (eqb w.acked_serial n || leb n w.buffer_serial) ≡ leb n w.acked_serial
    newer n above =
        let l : w.acked_serial ≤ n = omega (arith, h.acked_le, h.serial_le) in
        let u : w.buffer_serial ≤ w.acked_serial = h.under_le in
        grind (arith, nat_tests)
