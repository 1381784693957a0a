-- After an entry the machine ends the transaction that waits and begins the next one where the schedule does.
use Rattle.std.proofs.Common.{◌≡◌, ℕ, ◌+◌, Bool, true, false, cond, not, ◌||◌, eqb, inr, List, ◌∷◌, length, Option, Some, None, is_some, refl, ap, sym, ◌∙◌, subst, arith}
use Rattle.std.proofs.lemmas.Bool.{and_right, ne_eqb}
use Rattle.std.specs.List.Sorted.{IsStrictlySortedBy}
use Rattle.std.specs.Option.{option_map}
use Rattle.std.specs.Ordering.{nat_cmp}
use Rattle.wm_base.specs.declared.geometry.Size.{Size}
use Rattle.wm_base.specs.declared.ids.Buffer.{Buffer}
use Rattle.wm_base.specs.declared.ids.ConId.{ConId}
use Rattle.wm_arrange.specs.declared.parts.Placed.{Placed}
use Rattle.wm_arrange.specs.Same.{same_parts}
use Rattle.wm_arrange.specs.Sizes.{content_size}
use Rattle.wm_arrange.proofs.SameLemmas.{parts-decide}
use Rattle.wm_txn.specs.History.{Opening, Entry, arrangement, under_up_to}
use Rattle.wm_txn.specs.Windows.{Buffers, Windows, find, configure_all, count_all, count_unanswered, is_unanswered, left_of}
use Rattle.wm_txn.specs.Schedule.{Transaction, configure, is_new, same_size, transaction_from}
use Rattle.wm_txn.specs.Stands.{AreOpen, IsGone, IsHeld, IsKept, IsUnknown, Keeps, configure_of, serial_of}
use Rattle.wm_txn.specs.declared.held.Held.{Held}
use Rattle.wm_txn.specs.declared.held.Pending.{Pending}
use Rattle.wm_txn.proofs.AnswerLemmas.{serial_is, some_serial}
use Rattle.wm_txn.proofs.ConfigureLemmas.{after_configure, configured_keeps, count_configured, find_configured, keys_configured}
use Rattle.wm_txn.proofs.GoneLemmas.{gone_on, held_at}
use Rattle.wm_txn.proofs.WindowLemmas.{all_answered}

pub same_itself : (parts : List Placed) → same_parts parts parts ≡ true
same_itself parts = (parts-decide parts parts).1 refl

-- ---- a transaction ends

held_commits : (o : Opening) (history : List Entry) (transactions : List Transaction) (t : Transaction) (v : ConId) (w : Held) → IsHeld o history transactions (t ∷ transactions) v w → IsHeld o history (t ∷ transactions) (t ∷ transactions) v w
held_commits o history transactions t v w h = record {
  live_is = h.live_is;
  last_is = h.last_is;
  latest_is = h.latest_is;
  before_is = λ above. absurd (omega (arith, h.serial_le));
  newest_is = h.newest_is;
  saved_is = λ above. absurd (omega (arith, h.under_le, h.acked_le, h.serial_le));
  gave_is = λ n above. h.gave_is n (omega arith);
  under_le = h.under_le;
  acked_le = h.acked_le;
  serial_le = h.serial_le;
  placed_le = h.placed_le;
  numbers = record {
    acked_done = λ early. omega (arith, h.acked_le, serial);
    shown_le = omega (arith, h.under_le, h.acked_le, serial, all_shown);
    newest_under = h.numbers.newest_under;
    gave_under = h.numbers.gave_under;
    gave_shown = λ n gave_it early. omega (arith, h.numbers.gave_under n gave_it, all_shown);
  };
}
  where
    serial : serial_of (configure v (t ∷ transactions)) ≡ w.configure_serial
    serial = ap serial_of h.latest_is ∙ serial_is w.configure_serial w.configured_size

    all_shown : under_up_to (length (t ∷ transactions)) v history ≡ w.buffer_serial
    all_shown = h.numbers.newest_under (length (t ∷ transactions)) (omega (arith, h.under_le, h.acked_le, h.serial_le))

kept_commits : (o : Opening) (history : List Entry) (transactions : List Transaction) (t : Transaction) (v : ConId) (found : Option Held) (left : Option Buffer) → IsKept o history transactions (t ∷ transactions) v found left → IsKept o history (t ∷ transactions) (t ∷ transactions) v found left
kept_commits o history transactions t v None None h = h
kept_commits o history transactions t v None (Some buffer) h =
    gone_on o history history transactions (t ∷ transactions) (t ∷ transactions) (t ∷ transactions) v buffer h.held h (held_commits o history transactions t v h.held h.held_is) h.closed refl refl (omega arith)
kept_commits o history transactions t v (Some w) left h = held_commits o history transactions t v w h

pub keeps_committed : (o : Opening) (history : List Entry) (transactions : List Transaction) (t : Transaction) (number prefix : ℕ) (current : List Placed) (windows : Windows) (buffers : Buffers) (p : Pending)
    → Keeps o history transactions (t ∷ transactions) number prefix current windows buffers → p.prefix ≡ t.prefix → p.arrangement.parts ≡ t.parts
    → Keeps o history (t ∷ transactions) (t ∷ transactions) (number + 1) p.prefix p.arrangement.parts windows buffers
keeps_committed o history transactions t number prefix current windows buffers p k at parts = record {
  number_is = omega (arith, k.number_is);
  prefix_is = at;
  current_is = parts;
  each = λ v. kept_commits o history transactions t v (find v windows) (left_of v buffers) (k.each v);
  sorted = k.sorted;
  open_contents = k.open_contents;
}

-- ---- a transaction begins

module _ (o : Opening) (history : List Entry) (transactions : List Transaction) where
  abbrev pub t_here : Transaction
  t_here = transaction_from o transactions history

  abbrev pub n_here : ℕ
  n_here = length transactions + 1

  unknown_begins : (v : ConId) → AreOpen o history → IsUnknown o history transactions v → IsUnknown o history (t_here ∷ transactions) v
  unknown_begins v are_open h = record {
    not_open = h.not_open;
    no_last = h.no_last;
    no_configure = none (content_size v (arrangement o history)) refl;
    no_buffer = h.no_buffer;
    no_gift = h.no_gift;
    no_under = h.no_under;
  }
    where
      none : (found : Option Size) → content_size v (arrangement o history) ≡ found → configure v (t_here ∷ transactions) ≡ None
      none None e = rw (e, h.no_configure) refl
      none (Some size) e = let bad : false ≡ true = sym h.not_open ∙ are_open v (ap is_some e) in cc

  held_by_test : (v : ConId) (w : Held) (size : Size) → IsHeld o history transactions transactions v w → content_size v (arrangement o history) ≡ Some size → (b : Bool) → is_new (Some size) (configure_of w.configure_serial w.configured_size) ≡ b
      → IsHeld o history transactions (t_here ∷ transactions) v (cond b (record w { placed = n_here; previous_serial = w.configure_serial; configure_serial = n_here; configured_size = size }) (record w { placed = n_here }))
  held_by_test v w size h e true is_it = record {
    live_is = h.live_is;
    last_is = h.last_is;
    latest_is = rw (e, h.latest_is, is_it) (sym (some_serial n_here n_here size refl (omega arith)));
    before_is = λ above. ap serial_of h.latest_is ∙ serial_is w.configure_serial w.configured_size;
    newest_is = h.newest_is;
    saved_is = h.saved_is;
    gave_is = h.gave_is;
    under_le = h.under_le;
    acked_le = omega (arith, h.acked_le, h.serial_le);
    serial_le = omega arith;
    placed_le = omega arith;
    numbers = h.numbers;
  }
  held_by_test v w size h e false is_it = record {
    live_is = h.live_is;
    last_is = h.last_is;
    latest_is = rw (e, h.latest_is, is_it) refl;
    before_is = h.before_is;
    newest_is = h.newest_is;
    saved_is = h.saved_is;
    gave_is = h.gave_is;
    under_le = h.under_le;
    acked_le = h.acked_le;
    serial_le = omega (arith, h.serial_le);
    placed_le = omega arith;
    numbers = h.numbers;
  }

  new_test : (w : Held) (size : Size) (c : Bool) → eqb w.configure_serial 0 ≡ c → is_new (Some size) (configure_of w.configure_serial w.configured_size) ≡ (c || not (same_size w.configured_size size))
  new_test w size true e = rw e refl
  new_test w size false e = rw e refl

  held_configured : (v : ConId) (w : Held) → IsHeld o history transactions transactions v w → (found : Option Size) → content_size v (arrangement o history) ≡ found → IsHeld o history transactions (t_here ∷ transactions) v (after_configure n_here found w)
  held_configured v w h None e = record {
    live_is = h.live_is;
    last_is = h.last_is;
    latest_is = rw e h.latest_is;
    before_is = h.before_is;
    newest_is = h.newest_is;
    saved_is = h.saved_is;
    gave_is = h.gave_is;
    under_le = h.under_le;
    acked_le = h.acked_le;
    serial_le = omega (arith, h.serial_le);
    placed_le = omega (arith, h.placed_le);
    numbers = h.numbers;
  }
  held_configured v w h (Some size) e =
      let other : eqb w.placed n_here ≡ false = ne_eqb w.placed n_here (λ same_number. omega (arith, h.placed_le)) in
      let Held_so : Held → Type 0 = IsHeld o history transactions (t_here ∷ transactions) v in
      subst Held_so (rw other refl) (held_by_test v w size h e (eqb w.configure_serial 0 || not (same_size w.configured_size size)) (new_test w size (eqb w.configure_serial 0) refl))

  gone_configured : (v : ConId) (buffer : Buffer) → IsGone o history transactions transactions v buffer → (found : Option Size) → content_size v (arrangement o history) ≡ found → IsGone o history transactions (t_here ∷ transactions) v buffer
  gone_configured v buffer h found e =
      let same_held = configured_keeps n_here found h.held in
      gone_on o history history transactions transactions transactions (t_here ∷ transactions) v buffer (after_configure n_here found h.held) h (held_configured v h.held h.held_is found e) (same_held.0 ∙ h.closed) same_held.1 same_held.2 (omega arith)

  kept_configured : (v : ConId) (found : Option Held) (left : Option Buffer) → AreOpen o history → IsKept o history transactions transactions v found left
      → IsKept o history transactions (t_here ∷ transactions) v (option_map (after_configure n_here (content_size v (arrangement o history))) found) left
  kept_configured v None None are_open h = unknown_begins v are_open h
  kept_configured v None (Some buffer) are_open h = gone_configured v buffer h (content_size v (arrangement o history)) refl
  kept_configured v (Some w) left are_open h = held_configured v w h (content_size v (arrangement o history)) refl

  -- what is kept after the windows are configured
  pub keeps_configured : (number prefix : ℕ) (current parts : List Placed) (windows : Windows) (buffers : Buffers) → parts ≡ arrangement o history → Keeps o history transactions transactions number prefix current windows buffers
      → Keeps o history transactions (t_here ∷ transactions) number prefix current (configure_all n_here parts windows) buffers
  keeps_configured number prefix current parts windows buffers same_arrangement k = record {
    number_is = k.number_is;
    prefix_is = k.prefix_is;
    current_is = k.current_is;
    each = λ v.
        let Kept : Option Held → Type 0 = λ z. IsKept o history transactions (t_here ∷ transactions) v z (left_of v buffers) in
        subst Kept (ap (λ z. option_map (after_configure n_here (content_size v z)) (find v windows)) (sym same_arrangement) ∙ sym (find_configured n_here v parts windows)) (kept_configured v (find v windows) (left_of v buffers) k.open_contents (k.each v));
    sorted = subst (IsStrictlySortedBy nat_cmp) (sym (keys_configured n_here parts windows)) k.sorted;
    open_contents = k.open_contents;
  }

  none_before : (number prefix : ℕ) (current : List Placed) (windows : Windows) (buffers : Buffers) → Keeps o history transactions transactions number prefix current windows buffers → (a : ConId) (w : Held) → find a windows ≡ Some w → is_unanswered n_here w ≡ false
  none_before number prefix current windows buffers k a w at =
      let held : IsHeld o history transactions transactions a w = held_at o history transactions transactions a (find a windows) (left_of a buffers) w at (k.each a) in
      let other : eqb w.configure_serial n_here ≡ false = ne_eqb w.configure_serial n_here (λ same_number. omega (arith, held.serial_le)) in
      rw other (and_right w.live false refl)

  -- those that it awaits are those that are left
  pub left_configured : (number prefix : ℕ) (current parts : List Placed) (windows : Windows) (buffers : Buffers) → Keeps o history transactions transactions number prefix current windows buffers → count_all n_here parts windows ≡ count_unanswered n_here (configure_all n_here parts windows)
  left_configured number prefix current parts windows buffers k =
      let none = none_before number prefix current windows buffers k in
      let zero_before = all_answered n_here windows k.sorted none in
      let counted = count_configured n_here parts windows (λ a w at. inr (none a w at)) in
      omega arith
