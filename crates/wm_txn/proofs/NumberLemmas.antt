-- The numbers of the last transactions that have ended and begun, by what is known of the schedule.
use Rattle.std.proofs.Common.{◌≡◌, ℕ, zero, suc, ◌+◌, ◌≤◌, ◌<◌, Bool, true, false, cond, ◌⊎◌, inl, inr, ⊎_elim, List, ◌∷◌, length, None, refl, ap, sym, ◌∙◌, arith}
use Rattle.std.proofs.lemmas.Bool.{cases_lt}
use Rattle.wm_txn.specs.History.{Opening, Entry}
use Rattle.wm_txn.specs.Schedule.{Transaction, next, past}
use Rattle.wm_txn.specs.Commits.{greatest, has_begun, has_ended, done, started, transactions_up_to, ended_transactions, begun_transactions}
use Rattle.wm_txn.specs.Stands.{HasEnded, IsIdle, IsWaiting}

-- behind one that has not begun none has
pub beyond : (o : Opening) (history : List Entry) (n j : ℕ) → past o (suc n) history ≡ None → n < j → past o j history ≡ None
beyond o history n zero h above = absurd (omega arith)
beyond o history n (suc j) h above =
    elim (cases_lt n j) [
      | inl further ↦ ap (next o history) (beyond o history n j h further)
      | inr near ↦ let same : j ≡ n = omega arith in rw same h
    ]

at_last : (test : ℕ → Bool) (n m : ℕ) (b : Bool) → test (suc m) ≡ b → n ≤ suc m → (n ≡ 0) ⊎ (test n ≡ true) → (n < suc m → test (suc m) ≡ false) → (n ≤ m → greatest test m ≡ n)
    → cond b (suc m) (greatest test m) ≡ n
at_last test n m true e within holds above rest =
    elim (cases_lt n (suc m)) [
      | inl less ↦ let bad : true ≡ false = sym e ∙ above less in cc
      | inr near ↦ omega arith
    ]
at_last test n m false e within holds above rest =
    elim (cases_lt m n) [
      | inl past_it ↦ let same : n ≡ suc m = omega arith in ⊎_elim (λ zero_n. absurd (omega arith)) (λ at_n. let bad : true ≡ false = sym at_n ∙ (ap test same ∙ e) in cc) holds
      | inr less ↦ rest less
    ]

-- a number that passes, or 0, and above which none passes, is the greatest
pub greatest_is : (test : ℕ → Bool) (n m : ℕ) → n ≤ m → (n ≡ 0) ⊎ (test n ≡ true) → ((j : ℕ) → n < j → test j ≡ false) → greatest test m ≡ n
greatest_is test n zero within holds above = omega arith
greatest_is test n (suc m) within holds above =
    at_last test n m (test (suc m)) refl within holds (above (suc m)) (λ less. greatest_is test n m less holds above)

-- what the history says of the numbers
pub record Numbers (o : Opening) (history : List Entry) (transactions begun : List Transaction) : Type 0 where
  pub done_is : done o history ≡ length transactions
  pub started_is : started o history ≡ length begun
  pub ended_are : ended_transactions o history ≡ transactions
  pub begun_are : begun_transactions o history ≡ begun

module _ (o : Opening) (history : List Entry) (transactions : List Transaction) (h : HasEnded o history transactions) where
  transactions_are : (n : ℕ) → n ≡ length transactions → transactions_up_to o n history ≡ transactions
  transactions_are n e = rw (e, h.past_is) refl

  done_by : length transactions ≤ length history → ((j : ℕ) → length transactions < j → has_ended o history j ≡ false) → done o history ≡ length transactions
  done_by within above =
      greatest_is (has_ended o history) (length transactions) (length history) within (inr (rw (h.past_is, h.ended_at) refl)) above

  pub numbers_idle : IsIdle o history transactions → length transactions ≤ length history → Numbers o history transactions transactions
  numbers_idle idle within =
      let none : (j : ℕ) → length transactions < j → past o j history ≡ None = λ j above. beyond o history (length transactions) j idle.none above in
      let number = done_by within (λ j above. rw (none j above) refl) in
      let begun_number : started o history ≡ length transactions = greatest_is (has_begun o history) (length transactions) (length history) within (inr (rw h.past_is refl)) (λ j above. rw (none j above) refl) in
      record {
        done_is = number;
        started_is = begun_number;
        ended_are = transactions_are (done o history) number;
        begun_are = transactions_are (started o history) begun_number;
      }

  pub numbers_waiting : (t : Transaction) → IsWaiting o history t transactions → length transactions + 1 ≤ length history → Numbers o history transactions (t ∷ transactions)
  numbers_waiting t w within =
      let after : past o (suc (suc (length transactions))) history ≡ None = rw (w.begun_is, w.not_ended) refl in
      let none : (j : ℕ) → suc (length transactions) < j → past o j history ≡ None = λ j above. beyond o history (suc (length transactions)) j after above in
      let open_one : has_ended o history (suc (length transactions)) ≡ false = rw (w.begun_is, w.not_ended) refl in
      let not_ended_yet : (j : ℕ) → length transactions < j → has_ended o history j ≡ false = λ j above.
      elim (cases_lt (suc (length transactions)) j) [
        | inl further ↦ rw (none j further) refl
        | inr near ↦ let same : j ≡ suc (length transactions) = omega arith in rw same open_one
      ] in
      let number = done_by (omega arith) not_ended_yet in
      let begun_number : started o history ≡ suc (length transactions) = greatest_is (has_begun o history) (suc (length transactions)) (length history) (omega arith) (inr (rw w.begun_is refl)) (λ j above. rw (none j above) refl) in
      record {
        done_is = number;
        started_is = begun_number;
        ended_are = transactions_are (done o history) number;
        begun_are = rw (begun_number, w.begun_is) refl;
      }
