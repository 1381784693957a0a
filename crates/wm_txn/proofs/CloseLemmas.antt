-- What is kept of the windows after an arrangement came, a window was mapped and windows closed.
use Rattle.std.proofs.Common.{◌≡◌, ℕ, ◌+◌, ◌<◌, Bool, true, false, cond, not, ◌&&◌, ◌||◌, eqb, List, [], ◌∷◌, length, Option, Some, None, refl, ap, sym, ◌∙◌, subst, arith}
use Rattle.std.proofs.lemmas.Bool.{lt-leb, ne_eqb}
use Rattle.std.proofs.lemmas.Map.{keys-set_value}
use Rattle.std.specs.BTreeMap.{insert_entry, is_at}
use Rattle.std.specs.List.{list_any}
use Rattle.std.specs.List.Sorted.{IsStrictlySortedBy}
use Rattle.std.specs.Map.{keys_of}
use Rattle.std.specs.Option.{option_map}
use Rattle.std.specs.Ordering.{nat_cmp}
use Rattle.wm_base.specs.declared.ids.Buffer.{Buffer}
use Rattle.wm_base.specs.declared.ids.ConId.{ConId}
use Rattle.wm_forest.specs.Look.{same}
use Rattle.wm_arrange.specs.declared.parts.Placed.{Placed}
use Rattle.wm_txn.specs.History.{Opening, Entry, Arranged, buffer_up_to, is_fresh, is_open, mapped_with, under_up_to}
use Rattle.wm_txn.specs.Windows.{Buffers, Windows, IsNewcomer, ShowsOpen, close_all, close_found, closed_held, count_awaited, count_closed, count_unanswered, find, held_of, is_live, is_unanswered, left_of, one_if, open_fresh}
use Rattle.wm_txn.specs.Schedule.{Transaction}
use Rattle.wm_txn.specs.Stands.{IsGone, IsHeld, IsKept, IsLeft, IsNumbered, IsUnknown, Keeps}
use Rattle.wm_txn.specs.declared.held.Held.{Held}
use Rattle.wm_txn.proofs.GoneLemmas.{gone_on, left_closed}
use Rattle.wm_txn.proofs.KeepLemmas.{same_id}
use Rattle.wm_txn.proofs.WindowLemmas.{one_id, find_put, find_insert, count_put, count_insert}

-- ---- windows that close

abbrev pub close_if : Bool → Held → Held
close_if true w = closed_held w
close_if false w = w

unclosed : (x : Option Held) → option_map (close_if false) x ≡ x
unclosed None = refl
unclosed (Some w) = refl

close_again : (b : Bool) (w : Held) → close_if b (closed_held w) ≡ closed_held w
close_again true w = refl
close_again false w = refl

close_twice : (a b : Bool) (x : Option Held) → option_map (close_if b) (option_map (close_if a) x) ≡ option_map (close_if (a || b)) x
close_twice a b None = refl
close_twice true b (Some w) = ap (λ z. Some z) (close_again b w)
close_twice false b (Some w) = refl

close_step : (c v : ConId) (windows : Windows) (found : Option Held) (b : Bool) → find c windows ≡ found → same v c ≡ b → find v (close_found c found windows) ≡ option_map (close_if b) (find v windows)
close_step c v windows None true at one = let none : find v windows ≡ None = ap (λ z. find z windows) (one_id v c one) ∙ at in rw none refl
close_step c v windows None false at one = sym (unclosed (find v windows))
close_step c v windows (Some w) true at one =
    let there : find v windows ≡ Some w = ap (λ z. find z windows) (one_id v c one) ∙ at in
    let test : same c v ≡ true = ap (λ z. same c z) (one_id v c one) ∙ same_id c in
    find_put c v (closed_held w) w windows at ∙ rw (test, there) refl
close_step c v windows (Some w) false at other =
    let test : same c v ≡ false = ne_eqb c.0 v.0 (λ e. let t : same v c ≡ true = rw e (same_id v) in let bad : true ≡ false = sym t ∙ other in cc) in
    find_put c v (closed_held w) w windows at ∙ rw test (sym (unclosed (find v windows)))

-- each window that is gone is closed, and no other
pub find_closed : (v : ConId) (gone : List ConId) (windows : Windows) → find v (close_all gone windows) ≡ option_map (close_if (list_any (same v) gone)) (find v windows)
find_closed v [] windows = sym (unclosed (find v windows))
find_closed v (c ∷ gone) windows =
    find_closed v gone (close_found c (find c windows) windows)
    ∙ (ap (option_map (close_if (list_any (same v) gone))) (close_step c v windows (find c windows) (same v c) refl refl)
    ∙ close_twice (same v c) (list_any (same v) gone) (find v windows))

keys_close : (c : ConId) (found : Option Held) (windows : Windows) → keys_of (close_found c found windows) ≡ keys_of windows
keys_close c None windows = refl
keys_close c (Some w) windows = keys-set_value (is_at (nat_cmp c.0)) windows (closed_held w)

keys_closed : (gone : List ConId) (windows : Windows) → keys_of (close_all gone windows) ≡ keys_of windows
keys_closed [] windows = refl
keys_closed (c ∷ gone) windows = keys_closed gone (close_found c (find c windows) windows) ∙ keys_close c (find c windows) windows

count_close : (n : ℕ) (c : ConId) (found : Option Held) (windows : Windows) → find c windows ≡ found → count_awaited n found + count_unanswered n (close_found c found windows) ≡ count_unanswered n windows
count_close n c None windows at = omega arith
count_close n c (Some w) windows at = let put_it = count_put n c (closed_held w) w windows at in omega arith

-- those that are left are those that did not close
pub count_gone : (n : ℕ) (gone : List ConId) (windows : Windows) → count_closed n gone windows + count_unanswered n (close_all gone windows) ≡ count_unanswered n windows
count_gone n [] windows = omega arith
count_gone n (c ∷ gone) windows =
    let one = count_close n c (find c windows) windows refl in
    let rest = count_gone n gone (close_found c (find c windows) windows) in
    omega arith

-- ---- a window that is mapped

pub count_fresh : (n : ℕ) (fresh : Option (ConId × Buffer)) (windows : Windows) (buffers : Buffers) → 0 < n → IsNewcomer fresh windows buffers → count_unanswered n (open_fresh fresh windows) ≡ count_unanswered n windows
count_fresh n None windows buffers above new = refl
count_fresh n (Some window) windows buffers above new =
    let other : eqb 0 n ≡ false = ne_eqb 0 n (λ e. omega arith) in
    let zero_held : one_if (is_unanswered n (held_of window.1)) ≡ 0 = rw other refl in
    let put_it = count_insert n window.0 (held_of window.1) windows new.0 in
    omega arith

module _ (o : Opening) (history : List Entry) (transactions begun : List Transaction) (newest : List Placed) (fresh : Option (ConId × Buffer)) (gone : List ConId) where
  abbrev after : List Entry
  after = Arranged newest fresh gone ∷ history

  numbers_closed : (v : ConId) (w : Held) → is_fresh v fresh ≡ false → IsHeld o history transactions begun v w → IsNumbered after transactions v w.acked_serial w.buffer_serial
  numbers_closed v w not_fresh h =
      let same_under : (n : ℕ) → under_up_to n v after ≡ under_up_to n v history = λ n. rw not_fresh refl in
      record {
        acked_done = h.numbers.acked_done;
        shown_le = omega (arith, same_under (length transactions), h.numbers.shown_le);
        newest_under = λ n under. same_under n ∙ h.numbers.newest_under n under;
        gave_under = h.numbers.gave_under;
        gave_shown = λ n gave_it early. omega (arith, same_under (length transactions), h.numbers.gave_shown n gave_it early);
      }

  held_closed : (v : ConId) (w : Held) (g : Bool) → list_any (same v) gone ≡ g → is_fresh v fresh ≡ false → ((b : Option Buffer) → mapped_with v fresh b ≡ b) → IsHeld o history transactions begun v w → IsHeld o after transactions begun v (close_if g w)
  held_closed v w true is_gone not_fresh same_buffer h = record {
    live_is = rw (is_gone, not_fresh, h.live_is) (and_false w.live);
    last_is = h.last_is;
    latest_is = h.latest_is;
    before_is = h.before_is;
    newest_is = λ n under. same_buffer (buffer_up_to o n v history) ∙ h.newest_is n under;
    saved_is = λ above. same_buffer (buffer_up_to o (length transactions) v history) ∙ h.saved_is above;
    gave_is = h.gave_is;
    under_le = h.under_le;
    acked_le = h.acked_le;
    serial_le = h.serial_le;
    placed_le = h.placed_le;
    numbers = numbers_closed v w not_fresh h;
  }
    where
      and_false : (b : Bool) → (b && false) ≡ false
      and_false true = refl
      and_false false = refl
  held_closed v w false is_gone not_fresh same_buffer h = record {
    live_is = rw (is_gone, not_fresh, h.live_is) (and_true w.live);
    last_is = h.last_is;
    latest_is = h.latest_is;
    before_is = h.before_is;
    newest_is = λ n under. same_buffer (buffer_up_to o n v history) ∙ h.newest_is n under;
    saved_is = λ above. same_buffer (buffer_up_to o (length transactions) v history) ∙ h.saved_is above;
    gave_is = h.gave_is;
    under_le = h.under_le;
    acked_le = h.acked_le;
    serial_le = h.serial_le;
    placed_le = h.placed_le;
    numbers = numbers_closed v w not_fresh h;
  }
    where
      and_true : (b : Bool) → (b && true) ≡ b
      and_true true = refl
      and_true false = refl

  gone_closed : (v : ConId) (buffer : Buffer) (g : Bool) → list_any (same v) gone ≡ g → is_fresh v fresh ≡ false → ((b : Option Buffer) → mapped_with v fresh b ≡ b) → IsGone o history transactions begun v buffer → IsGone o after transactions begun v buffer
  gone_closed v buffer true is_gone not_fresh same_buffer h =
      gone_on o history after transactions begun transactions begun v buffer (closed_held h.held) h (held_closed v h.held true is_gone not_fresh same_buffer h.held_is) refl refl refl (omega arith)
  gone_closed v buffer false is_gone not_fresh same_buffer h =
      gone_on o history after transactions begun transactions begun v buffer h.held h (held_closed v h.held false is_gone not_fresh same_buffer h.held_is) h.closed refl refl (omega arith)

  kept_closed : (v : ConId) (found : Option Held) (left : Option Buffer) → is_fresh v fresh ≡ false → ((b : Option Buffer) → mapped_with v fresh b ≡ b) → IsKept o history transactions begun v found left
      → IsKept o after transactions begun v (option_map (close_if (list_any (same v) gone)) found) left
  kept_closed v None None not_fresh same_buffer h = record {
    not_open = rw (not_fresh, h.not_open) refl;
    no_last = h.no_last;
    no_configure = h.no_configure;
    no_buffer = λ n. same_buffer (buffer_up_to o n v history) ∙ h.no_buffer n;
    no_gift = h.no_gift;
    no_under = λ n. rw not_fresh (h.no_under n);
  }
  kept_closed v None (Some buffer) not_fresh same_buffer h = gone_closed v buffer (list_any (same v) gone) refl not_fresh same_buffer h
  kept_closed v (Some w) left not_fresh same_buffer h = held_closed v w (list_any (same v) gone) refl not_fresh same_buffer h

  held_fresh : (v : ConId) (buffer : Buffer) (g : Bool) → list_any (same v) gone ≡ g → is_fresh v fresh ≡ true → ((b : Option Buffer) → mapped_with v fresh b ≡ Some buffer) → IsUnknown o history begun v
      → IsHeld o after transactions begun v (close_if g (held_of buffer))
  held_fresh v buffer g is_gone is_it this_buffer h = by g is_gone
    where
      no_under : (n : ℕ) → under_up_to n v after ≡ 0
      no_under n = rw is_it refl

      bare : (w : Held) → w.acked_serial ≡ 0 → w.configure_serial ≡ 0 → w.buffer_serial ≡ 0 → w.placed ≡ 0 → w.buffer ≡ buffer → is_open o v after ≡ w.live → IsHeld o after transactions begun v w
      bare w acked serial under placed newest_buffer live = record {
        live_is = live;
        last_is = h.no_last ∙ sym acked;
        latest_is = h.no_configure ∙ rw serial refl;
        before_is = λ above. absurd (omega arith);
        newest_is = λ n at. this_buffer (buffer_up_to o n v history) ∙ ap (λ z. Some z) (sym newest_buffer);
        saved_is = λ above. absurd (omega arith);
        gave_is = λ n above. h.no_gift n ∙ sym (lt-leb n w.buffer_serial (omega arith));
        under_le = omega arith;
        acked_le = omega arith;
        serial_le = omega arith;
        placed_le = omega arith;
        numbers = record {
          acked_done = λ early. omega arith;
          shown_le = omega (arith, no_under (length transactions));
          newest_under = λ n at. no_under n ∙ sym under;
          gave_under = λ n gave_it. let bad : false ≡ true = sym (h.no_gift n) ∙ gave_it in cc;
          gave_shown = λ n gave_it early. let bad : false ≡ true = sym (h.no_gift n) ∙ gave_it in cc;
        };
      }

      by : (g : Bool) → list_any (same v) gone ≡ g → IsHeld o after transactions begun v (close_if g (held_of buffer))
      by true e = bare (closed_held (held_of buffer)) refl refl refl refl refl (rw (e, is_it) refl)
      by false e = bare (held_of buffer) refl refl refl refl refl (rw (e, is_it) refl)

module _ (o : Opening) (history : List Entry) (transactions begun : List Transaction) (newest : List Placed) (gone : List ConId) (windows : Windows) (buffers : Buffers) where
  kept_mapped : (v c : ConId) (buffer : Buffer) (b : Bool) → same c v ≡ b → find c windows ≡ None → left_of c buffers ≡ None → IsKept o history transactions begun v (find v windows) (left_of v buffers)
      → IsKept o (Arranged newest (Some (c, buffer)) gone ∷ history) transactions begun v (option_map (close_if (list_any (same v) gone)) (cond b (Some (held_of buffer)) (find v windows))) (left_of v buffers)
  kept_mapped v c buffer true one new unseen kept =
      let none : find v windows ≡ None = ap (λ z. find z windows) (sym (one_id c v one)) ∙ new in
      let none_left : left_of v buffers ≡ None = ap (λ z. left_of z buffers) (sym (one_id c v one)) ∙ unseen in
      let unknown = subst (IsLeft o history transactions begun v) none_left (subst (λ z. IsKept o history transactions begun v z (left_of v buffers)) none kept) in
      held_fresh o history transactions begun newest (Some (c, buffer)) gone v buffer (list_any (same v) gone) refl one (λ b. rw one refl) unknown
  kept_mapped v c buffer false other new unseen kept =
      kept_closed o history transactions begun newest (Some (c, buffer)) gone v (find v windows) (left_of v buffers) other (λ b. rw other refl) kept

  kept_arranged : (v : ConId) (fresh : Option (ConId × Buffer)) → IsNewcomer fresh windows buffers → IsKept o history transactions begun v (find v windows) (left_of v buffers)
      → IsKept o (Arranged newest fresh gone ∷ history) transactions begun v (find v (close_all gone (open_fresh fresh windows))) (left_of v buffers)
  kept_arranged v None new kept =
      let Kept : Option Held → Type 0 = λ z. IsKept o (Arranged newest None gone ∷ history) transactions begun v z (left_of v buffers) in
      subst Kept (sym (find_closed v gone windows)) (kept_closed o history transactions begun newest None gone v (find v windows) (left_of v buffers) refl (λ b. refl) kept)
  kept_arranged v (Some (c, buffer)) new kept =
      let Kept : Option Held → Type 0 = λ z. IsKept o (Arranged newest (Some (c, buffer)) gone ∷ history) transactions begun v z (left_of v buffers) in
      let inserted = insert_entry nat_cmp windows c.0 (held_of buffer) in
      subst Kept (ap (option_map (close_if (list_any (same v) gone))) (sym (find_insert c v (held_of buffer) windows)) ∙ sym (find_closed v gone inserted))
      (kept_mapped v c buffer (same c v) refl new.0 new.1 kept)

  live_kept : (v : ConId) (found : Option Held) (left : Option Buffer) → IsKept o history transactions begun v found left → is_open o v history ≡ is_live found
  live_kept v None left kept = left_closed o history transactions begun v left kept
  live_kept v (Some w) left kept = kept.live_is

  -- what is kept after an arrangement came
  pub keeps_arranged : (fresh : Option (ConId × Buffer)) (number prefix : ℕ) (current : List Placed) → IsNewcomer fresh windows buffers → ShowsOpen newest fresh gone windows
      → IsStrictlySortedBy nat_cmp (keys_of (open_fresh fresh windows)) → Keeps o history transactions begun number prefix current windows buffers
      → Keeps o (Arranged newest fresh gone ∷ history) transactions begun number prefix current (close_all gone (open_fresh fresh windows)) buffers
  keeps_arranged fresh number prefix current new shows sorted k = record {
    number_is = k.number_is;
    prefix_is = k.prefix_is;
    current_is = k.current_is;
    each = λ v. kept_arranged v fresh new (k.each v);
    sorted = subst (IsStrictlySortedBy nat_cmp) (sym (keys_closed gone (open_fresh fresh windows))) sorted;
    open_contents = λ v there. ap (λ z. (is_fresh v fresh || z) && not (list_any (same v) gone)) (live_kept v (find v windows) (left_of v buffers) (k.each v)) ∙ shows v there;
  }
