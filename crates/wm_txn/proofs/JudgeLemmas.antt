-- What the machine refuses is what the history refuses.
use Rattle.std.proofs.Common.{◌≡◌, ℕ, ◌+◌, ◌<◌, Bool, true, false, cond, ◌||◌, eqb, ltb, inl, inr, List, ◌∷◌, length, Option, Some, None, Ok, is_ok, refl, ap, sym, ◌∙◌, subst, arith}
use Rattle.std.proofs.lemmas.Bool.{and_right, ltb-true, ne_eqb}
use Rattle.std.proofs.lemmas.Bool.Decides.{nat_tests}
use Rattle.wm_base.specs.declared.geometry.Size.{Size}
use Rattle.wm_base.specs.declared.ids.Buffer.{Buffer}
use Rattle.wm_base.specs.declared.ids.ConId.{ConId}
use Rattle.wm_txn.specs.Commits.{begun_transactions, ended_transactions}
use Rattle.wm_txn.specs.Accepted.{ack_answer, buffer_answer, accept, is_due, is_empty, is_serial}
use Rattle.wm_txn.specs.History.{Opening, Entry, Acked, Gave, is_open}
use Rattle.wm_txn.specs.Machine.{TxnValue, ack_found, ack_step, buffer_found, buffer_step, is_due_by, judge_ack, judge_buffer, settled}
use Rattle.wm_txn.specs.Windows.{committed_serial, find, left_of}
use Rattle.wm_txn.specs.Schedule.{Transaction, configure}
use Rattle.wm_txn.specs.Stands.{IsHeld, IsKept, Keeps, StandsFor, serial_of}
use Rattle.wm_txn.specs.declared.held.Held.{Held}
use Rattle.wm_txn.proofs.AnswerLemmas.{serial_is}
use Rattle.wm_txn.proofs.DueLemmas.{OneMore, committed_is}
use Rattle.wm_txn.proofs.EntryLemmas.{stands_acked, stands_buffered, stands_still}
use Rattle.wm_txn.proofs.GoneLemmas.{held_at, left_closed}
use Rattle.wm_txn.proofs.NumberLemmas.{Numbers, numbers_idle, numbers_waiting}
use Rattle.wm_txn.proofs.StepLemmas.{known}

-- what the machine knows of the history
pub record Sees (o : Opening) (history : List Entry) (d : TxnValue) : Type 0 where
  pub transactions : List Transaction
  pub begun : List Transaction
  pub keeps : Keeps o history transactions begun d.number d.prefix d.current.parts d.windows d.gone
  pub numbers : Numbers o history transactions begun
  pub one_more : OneMore transactions begun

pub sees : (o : Opening) (history : List Entry) (d : TxnValue) → StandsFor o history d → Sees o history d
sees o history d s = elim (known o history d s) [
  | inl r ↦ record { transactions = r.0; begun = r.0; keeps = r.1.keeps; numbers = numbers_idle o history r.0 r.1.idle_is.done r.1.idle_is r.1.within; one_more = inl refl }
  | inr w ↦ record { transactions = w.0; begun = w.1 ∷ w.0; keeps = w.3.keeps; numbers = numbers_waiting o history w.0 w.3.waiting_is.done w.1 w.3.waiting_is w.3.within; one_more = inr (w.1, refl) }
]

-- ---- serials

configured_serial : (serial : ℕ) (found : Option (ℕ × Size)) → 0 < serial → is_serial serial found ≡ eqb serial (serial_of found)
configured_serial serial None above = sym (ne_eqb serial 0 (λ e. omega arith))
configured_serial serial (Some c) above = grind (arith, nat_tests)

module _ (o : Opening) (history : List Entry) (d : TxnValue) (e : Sees o history d) (v : ConId) (w : Held) (at : find v d.windows ≡ Some w) where
  held_there : IsHeld o history e.transactions e.begun v w
  held_there = held_at o history e.transactions e.begun v (find v d.windows) (left_of v d.gone) w at (e.keeps.each v)

  committed_there : serial_of (configure v e.transactions) ≡ committed_serial d.number w
  committed_there = committed_is o history e.transactions e.begun v w held_there e.one_more d.number e.keeps.number_is

  due_step : (serial : ℕ) (b : Bool) → ltb w.acked_serial serial ≡ b → is_due o v serial history ≡ is_due_by d.number serial w
  due_step serial false late =
      rw (held_there.last_is, late) (and_right (is_serial serial (configure v (begun_transactions o history)) || is_serial serial (configure v (ended_transactions o history))) false refl ∙ sym (and_right (eqb serial w.configure_serial || eqb serial (committed_serial d.number w)) false refl))
  due_step serial true early =
      let above : 0 < serial = omega (arith, ltb-true w.acked_serial serial early) in
      let latest : is_serial serial (configure v (begun_transactions o history)) ≡ eqb serial w.configure_serial =
      configured_serial serial (configure v (begun_transactions o history)) above ∙ ap (eqb serial) (ap (λ z. serial_of (configure v z)) e.numbers.begun_are ∙ (ap serial_of held_there.latest_is ∙ serial_is w.configure_serial w.configured_size)) in
      let ended_one : is_serial serial (configure v (ended_transactions o history)) ≡ eqb serial (committed_serial d.number w) =
      configured_serial serial (configure v (ended_transactions o history)) above ∙ ap (eqb serial) (ap (λ z. serial_of (configure v z)) e.numbers.ended_are ∙ committed_there) in
      rw (latest, ended_one, held_there.last_is) refl

  pub due_is : (serial : ℕ) → is_due o v serial history ≡ is_due_by d.number serial w
  due_is serial = due_step serial (ltb w.acked_serial serial) refl

-- ---- acknowledgements

module _ (o : Opening) (history : List Entry) (d : TxnValue) (s : StandsFor o history d) (v : ConId) where
  closed_there : Sees o history d → find v d.windows ≡ None → is_open o v history ≡ false
  closed_there e at = left_closed o history e.transactions e.begun v (left_of v d.gone) (subst (λ z. IsKept o history e.transactions e.begun v z (left_of v d.gone)) at (e.keeps.each v))

  taken : (entry accepted_one : Entry) (new : TxnValue) (b : Bool) → accepted_one ≡ entry → b ≡ true → StandsFor o (entry ∷ history) new → StandsFor o (accepted_one ∷ history) (cond b new d)
  taken entry accepted_one new b accepted_it ok stood =
      let After : Entry → Type 0 = λ z. StandsFor o (z ∷ history) (cond b new d) in
      let New : Bool → Type 0 = λ z. StandsFor o (entry ∷ history) (cond z new d) in
      subst After (sym accepted_it) (subst New (sym ok) stood)

  ack_known : (serial : ℕ) (w : Held) → find v d.windows ≡ Some w → (live due : Bool) → w.live ≡ live → is_due_by d.number serial w ≡ due
      → (judge_ack d.number serial (Some w) ≡ ack_answer o v serial history) × StandsFor o (accept o (Acked v serial) history ∷ history) (cond (is_ok (judge_ack d.number serial (Some w))) (ack_found v serial (Some w) d) d)
  ack_known serial w at live due is_it due_it = by live due is_it due_it
    where
      e : Sees o history d
      e = sees o history d s

      opens : is_open o v history ≡ w.live
      opens = (held_there o history d e v w at).live_is

      due_here : is_due o v serial history ≡ is_due_by d.number serial w
      due_here = due_is o history d e v w at serial

      by : (live due : Bool) → w.live ≡ live → is_due_by d.number serial w ≡ due
          → (judge_ack d.number serial (Some w) ≡ ack_answer o v serial history) × StandsFor o (accept o (Acked v serial) history ∷ history) (cond (is_ok (judge_ack d.number serial (Some w))) (ack_found v serial (Some w) d) d)
      by false due is_it due_it = (rw (opens, is_it) refl, rw (opens, is_it) (stands_still o history d s))
      by true false is_it due_it = (rw (opens, is_it, due_here, due_it, (held_there o history d e v w at).last_is) refl, rw (opens, is_it, due_here, due_it) (stands_still o history d s))
      by true true is_it due_it =
          let answer : judge_ack d.number serial (Some w) ≡ Ok tt = rw (is_it, due_it) refl in
          let accepted_it : accept o (Acked v serial) history ≡ Acked v serial = rw (opens, is_it, due_here, due_it) refl in (
            rw (opens, is_it, due_here, due_it) refl,
            taken (Acked v serial) (accept o (Acked v serial) history) (ack_found v serial (Some w) d) (is_ok (judge_ack d.number serial (Some w))) accepted_it (ap is_ok answer) (stands_acked o history d s v serial w at due_it),
          )

  ack_found_there : (serial : ℕ) (found : Option Held) → find v d.windows ≡ found
      → (judge_ack d.number serial found ≡ ack_answer o v serial history) × StandsFor o (accept o (Acked v serial) history ∷ history) (cond (is_ok (judge_ack d.number serial found)) (ack_found v serial found d) d)
  ack_found_there serial None at =
      let e = sees o history d s in
      let closed = closed_there e at in
      (rw closed refl, rw closed (stands_still o history d s))
  ack_found_there serial (Some w) at = ack_known serial w at w.live (is_due_by d.number serial w) refl refl

  -- an acknowledgement is answered as the history says
  pub ack_is : (serial : ℕ) → judge_ack d.number serial (find v d.windows) ≡ ack_answer o v serial history
  ack_is serial = (ack_found_there serial (find v d.windows) refl).0

  pub stands_ack : (serial : ℕ) → StandsFor o (accept o (Acked v serial) history ∷ history) (ack_step v serial d)
  stands_ack serial = (ack_found_there serial (find v d.windows) refl).1

  -- ---- buffers

  buffer_known : (steps : ℕ) → steps ≡ length history + 1 → (buffer : Buffer) (w : Held) → find v d.windows ≡ Some w → is_open o v history ≡ w.live → (live empty : Bool) → w.live ≡ live → is_empty buffer.size ≡ empty
      → (judge_buffer buffer (Some w) ≡ buffer_answer o v buffer history) × StandsFor o (accept o (Gave v buffer) history ∷ history) (cond (is_ok (judge_buffer buffer (Some w))) (settled steps (buffer_found v buffer (Some w) d)) d)
  buffer_known steps steps_are buffer w at opens false empty is_it size = (rw (opens, is_it) refl, rw (opens, is_it) (stands_still o history d s))
  buffer_known steps steps_are buffer w at opens true true is_it size = (rw (opens, is_it, size) refl, rw (opens, is_it, size) (stands_still o history d s))
  buffer_known steps steps_are buffer w at opens true false is_it size =
      let answer : judge_buffer buffer (Some w) ≡ Ok tt = rw (is_it, size) refl in
      let accepted_it : accept o (Gave v buffer) history ≡ Gave v buffer = rw (opens, is_it, size) refl in (
        rw (opens, is_it, size) refl,
        taken (Gave v buffer) (accept o (Gave v buffer) history) (settled steps (buffer_found v buffer (Some w) d)) (is_ok (judge_buffer buffer (Some w))) accepted_it (ap is_ok answer) (stands_buffered o history d s v buffer w at steps steps_are),
      )

  buffer_found_there : (steps : ℕ) → steps ≡ length history + 1 → (buffer : Buffer) (found : Option Held) → find v d.windows ≡ found
      → (judge_buffer buffer found ≡ buffer_answer o v buffer history) × StandsFor o (accept o (Gave v buffer) history ∷ history) (cond (is_ok (judge_buffer buffer found)) (settled steps (buffer_found v buffer found d)) d)
  buffer_found_there steps steps_are buffer None at =
      let e = sees o history d s in
      let closed = closed_there e at in
      (rw closed refl, rw closed (stands_still o history d s))
  buffer_found_there steps steps_are buffer (Some w) at =
      let e = sees o history d s in
      let held = held_at o history e.transactions e.begun v (find v d.windows) (left_of v d.gone) w at (e.keeps.each v) in
      buffer_known steps steps_are buffer w at held.live_is w.live (is_empty buffer.size) refl refl

  -- a buffer is answered as the history says
  pub buffer_is : (buffer : Buffer) → judge_buffer buffer (find v d.windows) ≡ buffer_answer o v buffer history
  buffer_is buffer = (buffer_found_there (length history + 1) refl buffer (find v d.windows) refl).0

  pub stands_buffer : (steps : ℕ) → steps ≡ length history + 1 → (buffer : Buffer) → StandsFor o (accept o (Gave v buffer) history ∷ history) (buffer_step steps v buffer d)
  stands_buffer steps steps_are buffer = (buffer_found_there steps steps_are buffer (find v d.windows) refl).1
