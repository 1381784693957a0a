-- Laws of the schedule as the history grows.
use Rattle.std.proofs.Common.{◌≡◌, ℕ, zero, suc, ◌+◌, ◌≤◌, ◌<◌, Bool, true, false, cond, ◌&&◌, ◌||◌, eqb, leb, ◌⊎◌, inl, inr, List, [], ◌∷◌, length, Option, Some, None, is_some, refl, ap, sym, ◌∙◌, subst, arith}
use Rattle.std.proofs.lemmas.Bool.{and_parts, and_right, cases_lt, false_from_ne_true, lt-leb, ne_eqb, or_from}
use Rattle.std.specs.List.{list_all}
use Rattle.std.specs.Option.{option_and_then}
use Rattle.wm_base.specs.declared.ids.Buffer.{Buffer}
use Rattle.wm_base.specs.declared.ids.ConId.{ConId}
use Rattle.wm_arrange.specs.declared.parts.Placed.{Placed}
use Rattle.wm_arrange.specs.Sizes.{is_content}
use Rattle.wm_txn.specs.Commits.{done, ended_transactions, greatest, has_ended, prefix_of, transactions_up_to}
use Rattle.wm_txn.specs.Accepted.{accept, accepted}
use Rattle.wm_txn.specs.History.{Opening, Entry, arrangement, gave, gives, is_open, last}
use Rattle.wm_txn.specs.Lasting.{BegunStays, EndedStays, NeverFalls, EndsTwiceAtMost, SecondAwaitsNobody}
use Rattle.wm_txn.specs.Machine.{TxnValue}
use Rattle.wm_txn.specs.Windows.{find, left_of}
use Rattle.std.specs.Prelude.{unwrap_or}
use Rattle.wm_txn.specs.Schedule.{Transaction, answered, configures, contents, differs, ended, is_named, may_end, names, next, past}
use Rattle.wm_txn.specs.Stands.{IsHeld, IsKept}
use Rattle.wm_txn.specs.declared.held.Held.{Held}
use Rattle.wm_txn.proofs.AnswerLemmas.{has, has_here, has_later}
use Rattle.wm_txn.proofs.FirstLemmas.{first_within}
use Rattle.wm_txn.proofs.JudgeLemmas.{Sees, sees}
use Rattle.wm_txn.proofs.DueLemmas.{few_begun}
use Rattle.wm_txn.proofs.NumberLemmas.{beyond}
use Rattle.wm_txn.proofs.ScheduleLemmas.{ended_stays, past_stays}
use Rattle.wm_txn.proofs.BeginLemmas.{Beginning, beginning, begins_there, ended_late, first_holds, first_late, none_beyond, once_step, past_length}

pub begun_lasts : BegunStays
begun_lasts o history entry i transactions h = past_stays o history entry i transactions h

pub ended_lasts : EndedStays
ended_lasts o history entry transactions place h = ended_stays o history entry transactions place h

-- ---- numbers

greatest_le : (test : ℕ → Bool) (m : ℕ) → greatest test m ≤ m
greatest_le test zero = omega arith
greatest_le test (suc m) = by (test (suc m)) (greatest_le test m)
  where
    by : (b : Bool) → greatest test m ≤ m → cond b (suc m) (greatest test m) ≤ suc m
    by true h = omega arith
    by false h = omega arith

greatest_holds : (test : ℕ → Bool) (m : ℕ) → (greatest test m ≡ 0) ⊎ (test (greatest test m) ≡ true)
greatest_holds test zero = inl refl
greatest_holds test (suc m) = by (test (suc m)) refl (greatest_holds test m)
  where
    by : (b : Bool) → test (suc m) ≡ b → (greatest test m ≡ 0) ⊎ (test (greatest test m) ≡ true) → (cond b (suc m) (greatest test m) ≡ 0) ⊎ (test (cond b (suc m) (greatest test m)) ≡ true)
    by true e h = inr e
    by false e h = h

greatest_above : (test : ℕ → Bool) (m i : ℕ) → i ≤ m → test i ≡ true → i ≤ greatest test m
greatest_above test zero i le h = omega arith
greatest_above test (suc m) i le h = by (test (suc m)) refl (λ less. greatest_above test m i less h)
  where
    by : (b : Bool) → test (suc m) ≡ b → (i ≤ m → i ≤ greatest test m) → i ≤ cond b (suc m) (greatest test m)
    by true e rest = omega arith
    by false e rest = elim (cases_lt m i) [
      | inl last_one ↦ let same : i ≡ suc m = omega arith in let bad : true ≡ false = sym h ∙ (ap test same ∙ e) in cc
      | inr less ↦ rest less
    ]

record HasPlace (o : Opening) (history : List Entry) (i : ℕ) : Type 0 where
  transactions : List Transaction
  place : List Entry
  past_is : past o i history ≡ Some transactions
  ended_at : ended o transactions history ≡ Some place

place_by : (o : Opening) (history : List Entry) (i : ℕ) (found : Option (List Transaction)) → past o i history ≡ found → is_some (option_and_then (λ transactions. ended o transactions history) found) ≡ true → HasPlace o history i
place_by o history i None at h = let bad : false ≡ true = h in cc
place_by o history i (Some transactions) at h = by (ended o transactions history) refl h
  where
    by : (found : Option (List Entry)) → ended o transactions history ≡ found → is_some found ≡ true → HasPlace o history i
    by None e k = let bad : false ≡ true = k in cc
    by (Some place) e k = record { transactions = transactions; place = place; past_is = at; ended_at = e }

has_place : (o : Opening) (history : List Entry) (i : ℕ) → has_ended o history i ≡ true → HasPlace o history i
has_place o history i h = place_by o history i (past o i history) refl h

place_has : (o : Opening) (history : List Entry) (i : ℕ) → HasPlace o history i → has_ended o history i ≡ true
place_has o history i p = rw (p.past_is, p.ended_at) refl

ended_again : (o : Opening) (history : List Entry) (entry : Entry) (i : ℕ) → has_ended o history i ≡ true → has_ended o (entry ∷ history) i ≡ true
ended_again o history entry i h =
    let p = has_place o history i h in
    place_has o (entry ∷ history) i (record { transactions = p.transactions; place = p.place; past_is = past_stays o history entry i p.transactions p.past_is; ended_at = ended_stays o history entry p.transactions p.place p.ended_at })

done_rises : (o : Opening) (history : List Entry) (entry : Entry) → done o history ≤ done o (entry ∷ history)
done_rises o history entry =
    elim (greatest_holds (has_ended o history) (length history)) [
      | inl none ↦ omega arith
      | inr holds ↦
          let le = greatest_le (has_ended o history) (length history) in
          greatest_above (has_ended o (entry ∷ history)) (length (entry ∷ history)) (done o history) (omega arith) (ended_again o history entry (done o history) holds)
    ]

unwrapped : (o : Opening) (history : List Entry) (i : ℕ) (transactions : List Transaction) → past o i history ≡ Some transactions → past o i history ≡ Some (transactions_up_to o i history)
unwrapped o history i transactions h = h ∙ ap (λ z. Some z) (sym (rw h refl))

-- the transactions that have ended have begun
pub done_past : (o : Opening) (history : List Entry) → past o (done o history) history ≡ Some (ended_transactions o history)
done_past o history =
    elim (greatest_holds (has_ended o history) (length history)) [
      | inl none ↦ unwrapped o history (done o history) [] (ap (λ z. past o z history) none)
      | inr holds ↦ let p = has_place o history (done o history) holds in unwrapped o history (done o history) p.transactions p.past_is
    ]

-- and the last of them has ended
pub done_ended : (o : Opening) (history : List Entry) → (place : List Entry) × (ended o (ended_transactions o history) history ≡ Some place)
done_ended o history =
    elim (greatest_holds (has_ended o history) (length history)) [
      | inl none ↦ ([], ap (λ n. ended o (transactions_up_to o n history) history) none)
      | inr holds ↦ let p = has_place o history (done o history) holds in (p.place, ap (λ z. ended o (unwrap_or z []) history) p.past_is ∙ p.ended_at)
    ]

prefix_step : (o : Opening) (history : List Entry) (transactions us : List Transaction) (t : Transaction) (before : Option (List Transaction)) → Beginning o history before t us → prefix_of transactions ≤ prefix_of us → prefix_of transactions ≤ t.prefix
prefix_step o history transactions [] t before b h = omega arith
prefix_step o history transactions (u ∷ us) t before b h =
    let late = ended_late o history u us b.ended_place b.ended_at in
    let bounds = first_within (differs o (u ∷ us)) (length b.ended_place) history b.place b.found in
    let at : t.prefix ≡ length b.place = ap (λ (z : Transaction). z.prefix) b.transaction_is in
    omega arith

prefix_rises : (o : Opening) (history : List Entry) (i j : ℕ) (transactions later : List Transaction) → i ≤ j → past o i history ≡ Some transactions → past o j history ≡ Some later → prefix_of transactions ≤ prefix_of later
prefix_rises o history i zero transactions later le at_i at_j =
    let zero_i : i ≡ 0 = omega arith in
    let none : length transactions ≡ 0 = past_length o history i transactions at_i ∙ zero_i in
    by transactions none
  where
    by : (transactions : List Transaction) → length transactions ≡ 0 → prefix_of transactions ≤ prefix_of later
    by [] e = omega arith
    by (t ∷ transactions) e = absurd (omega arith)
prefix_rises o history i (suc j) transactions [] le at_i at_j = absurd (omega (arith, past_length o history (suc j) [] at_j))
prefix_rises o history i (suc j) transactions (t ∷ us) le at_i at_j =
    elim (cases_lt j i) [
      | inl last_one ↦
          let same : i ≡ suc j = omega arith in
          let e : Some transactions ≡ Some (t ∷ us) = sym at_i ∙ (ap (λ z. past o z history) same ∙ at_j) in
          let same_transactions : transactions ≡ t ∷ us = cc in
          subst (λ z. prefix_of z ≤ t.prefix) (sym same_transactions) (omega arith)
      | inr less ↦
          let b = beginning o history (past o j history) t us at_j in
          prefix_step o history transactions us t (past o j history) b (prefix_rises o history i j transactions us less at_i b.before_is)
    ]

pub never_falls : NeverFalls
never_falls o history entry =
    let rises = done_rises o history entry in (
      rises,
      prefix_rises o (entry ∷ history) (done o history) (done o (entry ∷ history)) (ended_transactions o history) (ended_transactions o (entry ∷ history)) rises
          (past_stays o history entry (done o history) (ended_transactions o history) (done_past o history)) (done_past o (entry ∷ history)),
    )

-- ---- two ends

not_ended_next : (o : Opening) (history : List Entry) (found : Option (List Transaction)) → is_some (option_and_then (λ transactions. ended o transactions history) found) ≡ false → next o history found ≡ None
not_ended_next o history None h = refl
not_ended_next o history (Some transactions) h = by (ended o transactions history) refl h
  where
    by : (found : Option (List Entry)) → ended o transactions history ≡ found → is_some found ≡ false → next o history (Some transactions) ≡ None
    by None e k = rw e refl
    by (Some place) e k = let bad : true ≡ false = k in cc

next_not_ended : (o : Opening) (history : List Entry) → has_ended o history (suc (done o history)) ≡ false
next_not_ended o history =
    elim (cases_lt (length history) (suc (done o history))) [
      | inl above ↦ rw (none_beyond o history (suc (done o history)) above) refl
      | inr within ↦ false_from_ne_true (has_ended o history (suc (done o history))) (λ holds. let le = greatest_above (has_ended o history) (length history) (suc (done o history)) within holds in absurd (omega arith))
    ]

-- at most one more has begun than has ended
pub not_begun : (o : Opening) (history : List Entry) → past o (suc (suc (done o history))) history ≡ None
not_begun o history = not_ended_next o history (past o (suc (done o history)) history) (next_not_ended o history)

pub ends_twice : EndsTwiceAtMost
ends_twice o history entry =
    let none : past o (suc (suc (suc (done o history)))) (entry ∷ history) ≡ None = once_step o history entry (suc (suc (done o history))) (not_begun o history) in
    let m = done o (entry ∷ history) in
    elim (greatest_holds (has_ended o (entry ∷ history)) (length (entry ∷ history))) [
      | inl zero_m ↦ omega arith
      | inr holds ↦ elim (cases_lt (suc (suc (done o history))) m) [
        | inl above ↦ let p = has_place o (entry ∷ history) m holds in
            let bad : None ≡ Some p.transactions = sym (beyond o (entry ∷ history) (suc (suc (done o history))) m none above) ∙ p.past_is in cc
        | inr within ↦ omega arith
      ]
    ]

first_has_step : (c : ConId → Bool) (p : Placed) (parts : List Placed) (v : ConId) (rest : List ConId) (a b : Bool) → is_content p.part ≡ a → (contents c parts ≡ v ∷ rest → has v parts ≡ true)
    → cond (a && b) (p.con ∷ contents c parts) (contents c parts) ≡ v ∷ rest → has v (p ∷ parts) ≡ true
first_has_step c p parts v rest true true e later k = let same_con : p.con ≡ v = cc in subst (λ z. has z (p ∷ parts) ≡ true) same_con (has_here p parts e)
first_has_step c p parts v rest true false e later k = has_later v p parts (later k)
first_has_step c p parts v rest false b e later k = has_later v p parts (later k)

first_has : (c : ConId → Bool) (parts : List Placed) (v : ConId) (rest : List ConId) → contents c parts ≡ v ∷ rest → has v parts ≡ true
first_has c [] v rest h = cc
first_has c (p ∷ parts) v rest h = first_has_step c p parts v rest (is_content p.part) (c p.con) refl (first_has c parts v rest) h

module _ (o : Opening) (history : List Entry) (entry : Entry) (d : TxnValue) (e : Sees o history d) where
  too_new_held : (n : ℕ) → length e.transactions + 1 < n → (v : ConId) (w : Held) → IsHeld o history e.transactions e.begun v w → gave n v (entry ∷ history) ≡ false
  too_new_held n above v w kept =
      let few = few_begun e.transactions e.begun e.one_more in
      let other : eqb (last v history) n ≡ false = ne_eqb (last v history) n (λ same. omega (arith, kept.last_is, kept.acked_le, kept.serial_le)) in
      let none : gave n v history ≡ false = kept.gave_is n (omega arith) ∙ lt-leb n w.buffer_serial (omega (arith, kept.under_le, kept.acked_le, kept.serial_le)) in
      or_from (gives v entry && eqb (last v history) n) (gave n v history) (and_right (gives v entry) _ other) none

  too_new : (n : ℕ) → length e.transactions + 1 < n → (v : ConId) (found : Option Held) (left : Option Buffer) → IsKept o history e.transactions e.begun v found left → gave n v (entry ∷ history) ≡ false
  too_new n above v None None kept =
      let other : eqb (last v history) n ≡ false = ne_eqb (last v history) n (λ same. omega (arith, kept.no_last)) in
      or_from (gives v entry && eqb (last v history) n) (gave n v history) (and_right (gives v entry) _ other) (kept.no_gift n)
  too_new n above v None (Some buffer) kept = too_new_held n above v kept.held kept.held_is
  too_new n above v (Some w) left kept = too_new_held n above v w kept

-- a transaction with a number that no window has acknowledged awaits nobody where it ends at once
nobody : (o : Opening) (history : List Entry) (n : ℕ) (t : Transaction) (transactions : List Transaction) (c : ConId → Bool) → ((v : ConId) → gave n v history ≡ false) → ((v : ConId) → has v (arrangement o history) ≡ true → is_open o v history ≡ true)
    → (views : List ConId) → contents c (arrangement o history) ≡ views → list_all (answered o n history) views ≡ true → views ≡ []
nobody o history n t transactions c none opens [] at all = refl
nobody o history n t transactions c none opens (v ∷ views) at all =
    let answer = and_parts (answered o n history v) (list_all (answered o n history) views) all in
    let there = opens v (first_has c (arrangement o history) v views at) in
    let bad : false ≡ true = rw (none v, there) at answer.0 in
    cc

pub second_awaits_nobody : SecondAwaitsNobody
second_awaits_nobody o history entry before after stood stands t transactions place begun_is ended_at =
    let g = accepted o history in
    let e' = accept o entry g in
    let n = done o g + 2 in
    let e = sees o g before stood in
    let none : past o n g ≡ None = ap (λ z. past o z g) (two (done o g)) ∙ not_begun o g in
    let new = begins_there o g e' n t transactions none begun_is in
    let at_prefix : t.prefix ≡ length (e' ∷ g) = ap (λ (z : Transaction). z.prefix) new in
    let late = ended_late o (e' ∷ g) t transactions place ended_at in
    let here : place ≡ e' ∷ g = first_late (may_end o (length transactions + 1) t) t.prefix g place e' ended_at (omega arith) in
    let may : may_end o (length transactions + 1) t (e' ∷ g) ≡ true = ap (may_end o (length transactions + 1) t) (sym here) ∙ first_holds (may_end o (length transactions + 1) t) t.prefix (e' ∷ g) place ended_at in
    let number : suc (length transactions) ≡ n = past_length o (e' ∷ g) n (t ∷ transactions) begun_is in
    let number_is : length transactions + 1 ≡ n = omega arith in
    let not_late : leb t.prefix (length g) ≡ false = lt-leb t.prefix (length g) (omega arith) in
    let not_named : is_named (length transactions + 1) t.prefix (e' ∷ g) ≡ false = rw not_late (and_right (names (length transactions + 1) e') false refl) in
    let all : list_all (answered o (length transactions + 1) (e' ∷ g)) t.awaits ≡ true = either (list_all (answered o (length transactions + 1) (e' ∷ g)) t.awaits) (is_named (length transactions + 1) t.prefix (e' ∷ g)) may not_named in
    let done_is = e.numbers.done_is in
    let awaits : t.awaits ≡ contents (configures transactions (arrangement o (e' ∷ g))) (arrangement o (e' ∷ g)) = ap (λ (z : Transaction). z.awaits) new in
    nobody o (e' ∷ g) (length transactions + 1) t transactions (configures transactions (arrangement o (e' ∷ g)))
    (λ v. too_new o g e' before e (length transactions + 1) (omega arith) v (find v before.windows) (left_of v before.gone) (e.keeps.each v))
    stands.keeps.open_contents t.awaits (sym awaits) all
  where
    two : (m : ℕ) → m + 2 ≡ suc (suc m)
    two m = omega arith

    either : (a b : Bool) → (a || b) ≡ true → b ≡ false → a ≡ true
    either true b h k = refl
    either false b h k = let bad : false ≡ true = sym k ∙ h in cc
