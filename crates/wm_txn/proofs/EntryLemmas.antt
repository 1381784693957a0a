-- What each entry does to the machine is what it says of the history.
use Rattle.std.proofs.Common.{◌≡◌, ℕ, ◌+◌, ◌-◌, ◌≤◌, Bool, true, false, cond, not, ◌&&◌, eqb, ltb, inl, inr, List, ◌∷◌, length, Option, Some, refl, ap, sym, ◌∙◌, arith}
use Rattle.std.proofs.lemmas.Bool.{ltb-true, ltb-false, or_right}
use Rattle.std.specs.List.Sorted.{IsStrictlySortedBy}
use Rattle.std.specs.Map.{keys_of}
use Rattle.std.specs.Ordering.{nat_cmp}
use Rattle.wm_base.specs.declared.ids.Buffer.{Buffer}
use Rattle.wm_base.specs.declared.ids.ConId.{ConId}
use Rattle.wm_arrange.specs.declared.parts.Arrangement.{Arrangement}
use Rattle.wm_txn.specs.History.{Opening, Entry, Arranged, Acked, Gave, Deadline, Still}
use Rattle.wm_txn.specs.Machine.{TxnValue, acked, answers, arranged, is_due_by, is_over, opened, settled, timed_out}
use Rattle.wm_txn.specs.Windows.{IsNewcomer, ShowsOpen, acked_with, buffered_with, close_all, count_closed, find, left_of, one_if, open_fresh, put}
use Rattle.wm_txn.specs.Schedule.{Transaction, is_named}
use Rattle.wm_txn.specs.Stands.{StandsFor}
use Rattle.wm_txn.specs.declared.held.Held.{Held}
use Rattle.wm_txn.specs.declared.held.Pending.{Pending}
use Rattle.wm_txn.proofs.CloseLemmas.{count_fresh, count_gone, keeps_arranged}
use Rattle.wm_txn.proofs.DueLemmas.{due_bounds, few_begun}
use Rattle.wm_txn.proofs.FollowLemmas.{settles_waiting}
use Rattle.wm_txn.proofs.GoneLemmas.{held_at}
use Rattle.wm_txn.proofs.KeepLemmas.{agree_acked, agree_deadline, agree_gave, agree_still, held_acked, held_buffered, keeps_put, keeps_same}
use Rattle.wm_txn.proofs.ScheduleLemmas.{was_waiting}
use Rattle.wm_txn.proofs.StepLemmas.{Pends, known, stands_on, stands_settled}
use Rattle.wm_txn.proofs.WindowLemmas.{count_put}

module _ (o : Opening) (history : List Entry) (d : TxnValue) (s : StandsFor o history d) where
  -- ---- an entry that does nothing

  pub stands_still : StandsFor o (Still ∷ history) d
  stands_still =
      stands_on o history Still d d.windows d.left d.newest
      (λ transactions begun few k. keeps_same o history (Still ∷ history) transactions begun d.number d.prefix d.current.parts d.windows d.gone (agree_still o history) k.open_contents k)
      (λ last new. new) (λ zero. zero) (λ counted. counted) (λ transactions t p w. refl) refl refl s

  -- ---- an arrangement

  pub stands_arranged : (newest : Arrangement) (fresh : Option (ConId × Buffer)) (gone : List ConId) (steps : ℕ) → steps ≡ length history + 1 → IsNewcomer fresh d.windows d.gone → ShowsOpen newest.parts fresh gone d.windows
      → IsStrictlySortedBy nat_cmp (keys_of (open_fresh fresh d.windows)) → StandsFor o (Arranged newest.parts fresh gone ∷ history) (settled steps (arranged newest gone (opened fresh d)))
  stands_arranged newest fresh gone steps steps_are new shows sorted =
      let n = d.number + 1 in
      let opened_windows = open_fresh fresh d.windows in
      stands_settled o history (Arranged newest.parts fresh gone) d (close_all gone opened_windows) (d.left - count_closed n gone opened_windows) (Some newest)
      (λ transactions begun few k. keeps_arranged o history transactions begun newest.parts gone d.windows d.gone fresh d.number d.prefix d.current.parts new shows sorted k)
      (λ last old. refl) (λ zero. omega arith)
      (λ counted. let same_count = count_fresh n fresh d.windows d.gone (omega arith) new in let gone_count = count_gone n gone opened_windows in omega arith)
      (λ transactions t p w. refl) steps steps_are s

  -- ---- a deadline

  over_is : (number : ℕ) (transactions : List Transaction) (t : Transaction) (p : Pending) → Pends o history transactions t p d → is_named (length transactions + 1) t.prefix (Deadline number ∷ history) ≡ is_over (length history) number d.number d.waiting
  over_is number transactions t p w = rw (w.pending_is, w.prefix_is, w.keeps.number_is) refl

  stands_not_over : (number : ℕ) → is_over (length history) number d.number d.waiting ≡ false → StandsFor o (Deadline number ∷ history) d
  stands_not_over number not_over =
      stands_on o history (Deadline number) d d.windows d.left d.newest
      (λ transactions begun few k. keeps_same o history (Deadline number ∷ history) transactions begun d.number d.prefix d.current.parts d.windows d.gone (agree_deadline o history number) k.open_contents k)
      (λ last new. new) (λ zero. zero) (λ counted. counted) (λ transactions t p w. over_is number transactions t p w ∙ not_over) refl refl s

  stands_over : (number : ℕ) → is_over (length history) number d.number d.waiting ≡ true → (steps : ℕ) → steps ≡ length history + 1 → StandsFor o (Deadline number ∷ history) (settled steps (record d { left = 0 }))
  stands_over number over steps steps_are = elim (known o history d s) [
    | inl r ↦ let bad : false ≡ true = rw r.1.none_waits at over in cc
    | inr w ↦ settles_waiting o history (Deadline number) steps steps_are w.0 w.1 w.2 (record d { left = 0 }) (record {
      keeps = keeps_same o history (Deadline number ∷ history) w.0 (w.1 ∷ w.0) d.number d.prefix d.current.parts d.windows d.gone (agree_deadline o history number) w.3.keeps.open_contents w.3.keeps;
      was = was_waiting o history (Deadline number) w.1 w.0 w.3.waiting_is;
      waiting_is = w.3.pending_is;
      prefix_is = w.3.prefix_is;
      parts_are = w.3.parts_are;
      awaits_are = w.3.awaits_are;
      ends_is = or_right _ (is_named (length w.0 + 1) w.1.prefix (Deadline number ∷ history)) (over_is number w.0 w.1 w.2 w.3 ∙ over);
      left_is = λ above. absurd (omega arith);
      newest_is = w.3.newest_is;
    }) w.3.within
  ]

  timed_step : (number place : ℕ) → place ≡ length history → (b : Bool) → is_over place number d.number d.waiting ≡ b → StandsFor o (Deadline number ∷ history) (cond b (settled (place + 1) (record d { left = 0 })) d)
  timed_step number place at true over = stands_over number (ap (λ z. is_over z number d.number d.waiting) (sym at) ∙ over) (place + 1) (omega arith)
  timed_step number place at false over = stands_not_over number (ap (λ z. is_over z number d.number d.waiting) (sym at) ∙ over)

  pub stands_timed : (number place : ℕ) → place ≡ length history → StandsFor o (Deadline number ∷ history) (timed_out place number d)
  stands_timed number place at = timed_step number place at (is_over place number d.number d.waiting) refl

  -- ---- an acknowledgement

  pub stands_acked : (v : ConId) (serial : ℕ) (w : Held) → find v d.windows ≡ Some w → is_due_by d.number serial w ≡ true → StandsFor o (Acked v serial ∷ history) (record d { windows = put v (acked_with serial w) d.windows })
  stands_acked v serial w at due =
      stands_on o history (Acked v serial) d (put v (acked_with serial w) d.windows) d.left d.newest
      (λ transactions begun one k.
      let held = held_at o history transactions begun v (find v d.windows) (left_of v d.gone) w at (k.each v) in
      let bounds = due_bounds o history transactions begun v w held one d.number k.number_is serial due in
      keeps_put o history (Acked v serial ∷ history) transactions begun d.number d.prefix d.current.parts v w (acked_with serial w) d.windows d.gone at
      (held_acked o history transactions begun v serial w held bounds.above bounds.within bounds.done) (agree_acked o history v serial) k.open_contents k)
      (λ last new. new) (λ zero. zero) (λ counted. let same_count = count_put (d.number + 1) v (acked_with serial w) w d.windows at in omega arith) (λ transactions t p w. refl) refl refl s

  -- ---- a buffer

  answer_step : (live serial : Bool) (under acked n : ℕ) → under ≤ acked
      → one_if (live && (serial && ltb under n)) ≡ one_if (live && (serial && ltb acked n)) + one_if ((live && (serial && ltb under n)) && not (live && (serial && ltb acked n)))
  answer_step false serial under acked n le = refl
  answer_step true false under acked n le = refl
  answer_step true true under acked n le = by (ltb under n) (ltb acked n) refl refl
    where
      by : (a b : Bool) → ltb under n ≡ a → ltb acked n ≡ b → one_if a ≡ one_if b + one_if (a && not b)
      by true true e f = refl
      by true false e f = refl
      by false false e f = refl
      by false true e f = absurd (omega (arith, ltb-true acked n f, ltb-false under n e))

  pub stands_buffered : (v : ConId) (buffer : Buffer) (w : Held) → find v d.windows ≡ Some w → (steps : ℕ) → steps ≡ length history + 1
      → StandsFor o (Gave v buffer ∷ history) (settled steps (record d { windows = put v (buffered_with d.number buffer w) d.windows; left = d.left - one_if (answers (d.number + 1) w (buffered_with d.number buffer w)) }))
  stands_buffered v buffer w at steps steps_are =
      let new = buffered_with d.number buffer w in
      let n = d.number + 1 in
      let under_le : w.buffer_serial ≤ w.acked_serial = elim (known o history d s) [
        | inl r ↦ let held = held_at o history r.0 r.0 v (find v d.windows) (left_of v d.gone) w at (r.1.keeps.each v) in held.under_le
        | inr p ↦ let held = held_at o history p.0 (p.1 ∷ p.0) v (find v d.windows) (left_of v d.gone) w at (p.3.keeps.each v) in held.under_le
      ] in
      stands_settled o history (Gave v buffer) d (put v new d.windows) (d.left - one_if (answers n w new)) d.newest
      (λ transactions begun few k. keeps_put o history (Gave v buffer ∷ history) transactions begun d.number d.prefix d.current.parts v w new d.windows d.gone at
      (held_buffered o history transactions begun v buffer d.number w (held_at o history transactions begun v (find v d.windows) (left_of v d.gone) w at (k.each v)) k.number_is (few_begun transactions begun few)) (agree_gave o history v buffer) k.open_contents k)
      (λ last old. old) (λ zero. omega arith)
      (λ counted. let put_it = count_put n v new w d.windows at in let fewer = answer_step w.live (eqb w.configure_serial n) w.buffer_serial w.acked_serial n under_le in omega arith)
      (λ transactions t p w. refl) steps steps_are s
