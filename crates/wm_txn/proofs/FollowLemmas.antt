-- After an entry the machine stands where the schedule does: what waits ends or waits on, and the next one begins.
use Rattle.std.proofs.Common.{◌≡◌, ℕ, ◌+◌, ◌≤◌, ◌<◌, Bool, true, false, cond, not, ◌||◌, eqb, leb, List, ◌∷◌, length, Option, Some, None, refl, ap, ap₂, sym, ◌∙◌, subst, arith}
use Rattle.std.proofs.lemmas.Bool.{eqb-true, lt-leb, and_right}
use Rattle.std.proofs.lemmas.Bool.Decides.{nat_tests}
use Rattle.wm_arrange.specs.declared.parts.Arrangement.{Arrangement}
use Rattle.wm_arrange.specs.declared.parts.Placed.{Placed}
use Rattle.wm_arrange.specs.Same.{same_parts}
use Rattle.wm_txn.specs.History.{Opening, Entry, arrangement}
use Rattle.wm_txn.specs.Machine.{TxnValue, began, commit_pending, committed, finished, followed, next_with, settled}
use Rattle.wm_txn.specs.Windows.{Buffers, Windows, configure_all, count_all, count_unanswered}
use Rattle.wm_txn.specs.Schedule.{Transaction, configures, contents, differs, is_named, last_parts, may_end, names, transaction_from}
use Rattle.wm_txn.specs.Stands.{IsNewest, IsScheduled, Keeps, StandsFor}
use Rattle.wm_txn.specs.declared.held.Pending.{Pending}
use Rattle.wm_txn.proofs.AnswerLemmas.{answered_is}
use Rattle.wm_txn.proofs.ScheduleLemmas.{WasIdle, WasWaiting, begins_here, ends_here, idles_on, waits_on}
use Rattle.wm_txn.proofs.SettleLemmas.{keeps_configured, keeps_committed, left_configured, same_itself}

pub or_none : (a b : Bool) → b ≡ false → (a || b) ≡ a
or_none true b h = refl
or_none false b h = h

module _ (o : Opening) (history : List Entry) (entry : Entry) where
  abbrev pub here : List Entry
  here = entry ∷ history

  -- no other begins
  pub stands_idle : (transactions : List Transaction) (d : TxnValue) → Keeps o here transactions transactions d.number d.prefix d.current.parts d.windows d.gone → WasIdle o entry history transactions → d.waiting ≡ None → d.left ≡ 0 → d.newest ≡ None
      → same_parts (arrangement o here) (last_parts o transactions) ≡ true → length transactions ≤ length history + 1 → StandsFor o here d
  stands_idle transactions d k was none_waits none_left none_newest same_arrangement within =
      let Scheduled : Option Pending → Type 0 = λ z. IsScheduled o here transactions transactions z d in
      record {
        transactions = transactions;
        begun = transactions;
        keeps = k;
        newest_is = subst (IsNewest (arrangement o here) (last_parts o transactions)) (sym none_newest) same_arrangement;
        schedule = subst Scheduled (sym none_waits) (record { begun_are = refl; idle_is = idles_on o history entry transactions was (rw same_arrangement refl); none_newest = none_newest; none_left = none_left });
        within = omega arith;
      }

  -- what is known of the transaction that waited when the entry came
  pub record Awaits (transactions : List Transaction) (t : Transaction) (p : Pending) (d : TxnValue) : Type 0 where
    pub keeps : Keeps o here transactions (t ∷ transactions) d.number d.prefix d.current.parts d.windows d.gone
    pub was : WasWaiting o entry history t transactions
    pub waiting_is : d.waiting ≡ Some p
    pub prefix_is : p.prefix ≡ t.prefix
    pub parts_are : p.arrangement.parts ≡ t.parts
    pub awaits_are : t.awaits ≡ contents (configures transactions t.parts) t.parts
    pub ends_is : may_end o (length transactions + 1) t here ≡ eqb d.left 0
    pub left_is : 0 < d.left → d.left ≡ count_unanswered (length transactions + 1) d.windows
    pub newest_is : IsNewest (arrangement o here) t.parts d.newest

  pub stands_waiting : (transactions : List Transaction) (t : Transaction) (p : Pending) (d : TxnValue) → Awaits transactions t p d → eqb d.left 0 ≡ false → length transactions ≤ length history → StandsFor o here d
  stands_waiting transactions t p d a other within =
      let some_left : 0 < d.left = grind (arith, nat_tests, other) in
      let Scheduled : Option Pending → Type 0 = λ z. IsScheduled o here transactions (t ∷ transactions) z d in
      record {
        transactions = transactions;
        begun = t ∷ transactions;
        keeps = a.keeps;
        newest_is = a.newest_is;
        schedule = subst Scheduled (sym a.waiting_is) (record {
          t = t;
          begun_are = refl;
          waiting_is = waits_on o history entry t transactions a.was (a.ends_is ∙ other);
          prefix_is = a.prefix_is;
          parts_are = a.parts_are;
          awaits_are = a.awaits_are;
          left_is = a.left_is some_left;
          some_left = some_left;
        });
        within = omega arith;
      }

  abbrev commit_keeps : (transactions : List Transaction) (t : Transaction) (p : Pending) (d : TxnValue) → Awaits transactions t p d → Keeps o here (t ∷ transactions) (t ∷ transactions) (d.number + 1) p.prefix p.arrangement.parts d.windows d.gone
  commit_keeps transactions t p d a = keeps_committed o here transactions t d.number d.prefix d.current.parts d.windows d.gone p a.keeps a.prefix_is a.parts_are

  -- one that begins here may end here exactly where nobody is left
  ends_begun : (transactions : List Transaction) (number prefix : ℕ) (current : List Placed) (windows : Windows) (buffers : Buffers) (left : ℕ) → Keeps o here transactions (transaction_from o transactions here ∷ transactions) number prefix current windows buffers
      → left ≡ count_unanswered (length transactions + 1) windows → may_end o (length transactions + 1) (transaction_from o transactions here) here ≡ eqb left 0
  ends_begun transactions number prefix current windows buffers left k left_is =
      let late : leb (length here) (length history) ≡ false = lt-leb (length here) (length history) (omega arith) in
      let not_named : is_named (length transactions + 1) (length here) here ≡ false = rw late (and_right (names (length transactions + 1) entry) false refl) in
      or_none _ (is_named (length transactions + 1) (length here) here) not_named
      ∙ (answered_is o here transactions (transaction_from o transactions here) windows buffers number prefix current k refl ∙ ap (λ z. eqb z 0) (sym left_is))

  module _ (steps : ℕ) (steps_are : steps ≡ length history + 1) where
    finish_step : (transactions : List Transaction) (a : Arrangement) (d : TxnValue) → Awaits transactions (transaction_from o transactions here) (record { prefix = steps; arrangement = a }) d → a.parts ≡ arrangement o here → d.newest ≡ None → length transactions ≤ length history
        → (b : Bool) → eqb d.left 0 ≡ b → StandsFor o here (cond b (committed d) d)
    finish_step transactions a d w parts_are none_newest within false left = stands_waiting transactions (transaction_from o transactions here) _ d w left within
    finish_step transactions a d w parts_are none_newest within true left =
        let t = transaction_from o transactions here in
        let p : Pending = record { prefix = steps; arrangement = a } in
        let StandsHere : TxnValue → Type 0 = StandsFor o here in
        subst StandsHere (ap (λ z. commit_pending z d) (sym w.waiting_is))
        (stands_idle (t ∷ transactions) (commit_pending (Some p) d) (commit_keeps transactions t p d w) (ends_here o history entry t transactions w.was (w.ends_is ∙ left)) refl (eqb-true d.left 0 left) none_newest (same_itself (arrangement o here)) (omega arith))

    next_step : (transactions : List Transaction) (a : Arrangement) (d : TxnValue) → Keeps o here transactions transactions d.number d.prefix d.current.parts d.windows d.gone → WasIdle o entry history transactions → d.waiting ≡ None → d.left ≡ 0 → d.newest ≡ None
        → a.parts ≡ arrangement o here → length transactions ≤ length history → (b : Bool) → same_parts a.parts d.current.parts ≡ b → StandsFor o here (cond b d (finished (began steps a d)))
    next_step transactions a d k was none_waits none_left none_newest parts_are within true alike =
        stands_idle transactions d k was none_waits none_left none_newest (ap₂ same_parts (sym parts_are) (sym k.current_is) ∙ alike) (omega arith)
    next_step transactions a d k was none_waits none_left none_newest parts_are within false alike =
        let t = transaction_from o transactions here in
        let n = length transactions + 1 in
        let other : differs o transactions here ≡ true = ap not (ap₂ same_parts (sym parts_are) (sym k.current_is) ∙ alike) in
        let configured : configure_all (d.number + 1) a.parts d.windows ≡ configure_all n a.parts d.windows = ap (λ z. configure_all (z + 1) a.parts d.windows) k.number_is in
        let counted : count_all (d.number + 1) a.parts d.windows ≡ count_all n a.parts d.windows = ap (λ z. count_all (z + 1) a.parts d.windows) k.number_is in
        let Kept : Windows → Type 0 = λ z. Keeps o here transactions (t ∷ transactions) d.number d.prefix d.current.parts z d.gone in
        let keeps = subst Kept (sym configured) (keeps_configured o here transactions d.number d.prefix d.current.parts a.parts d.windows d.gone parts_are k) in
        let left_is : count_all (d.number + 1) a.parts d.windows ≡ count_unanswered n (configure_all (d.number + 1) a.parts d.windows) =
        counted ∙ (left_configured o here transactions d.number d.prefix d.current.parts a.parts d.windows d.gone k ∙ ap (count_unanswered n) (sym configured)) in
        finish_step transactions a (began steps a d) (record {
          keeps = keeps;
          was = begins_here o history entry transactions was other;
          waiting_is = refl;
          prefix_is = omega (arith, steps_are);
          parts_are = parts_are;
          awaits_are = refl;
          ends_is = ends_begun transactions d.number d.prefix d.current.parts (configure_all (d.number + 1) a.parts d.windows) d.gone (count_all (d.number + 1) a.parts d.windows) keeps left_is;
          left_is = λ above. left_is;
          newest_is = subst (IsNewest (arrangement o here) (arrangement o here)) (sym none_newest) (same_itself (arrangement o here));
        }) parts_are none_newest within (eqb (count_all (d.number + 1) a.parts d.windows) 0) refl

    follow_step : (transactions : List Transaction) (d : TxnValue) → Keeps o here transactions transactions d.number d.prefix d.current.parts d.windows d.gone → WasIdle o entry history transactions → d.waiting ≡ None → d.left ≡ 0
        → length transactions ≤ length history → (found : Option Arrangement) → IsNewest (arrangement o here) (last_parts o transactions) found → StandsFor o here (next_with steps found (record d { newest = None }))
    follow_step transactions d k was none_waits none_left within None newest = stands_idle transactions (record d { newest = None }) k was none_waits none_left refl newest (omega arith)
    follow_step transactions d k was none_waits none_left within (Some a) newest =
        next_step transactions a (record d { newest = None }) k was none_waits none_left refl newest within (same_parts a.parts d.current.parts) refl

    settle_step : (transactions : List Transaction) (t : Transaction) (p : Pending) (d : TxnValue) → Awaits transactions t p d → length transactions + 1 ≤ length history → (b : Bool) → eqb d.left 0 ≡ b → StandsFor o here (cond b (followed steps (committed d)) d)
    settle_step transactions t p d w within false left = stands_waiting transactions t p d w left (omega arith)
    settle_step transactions t p d w within true left =
        let StandsHere : TxnValue → Type 0 = StandsFor o here in
        subst StandsHere (ap (λ z. followed steps (commit_pending z d)) (sym w.waiting_is))
        (follow_step (t ∷ transactions) (commit_pending (Some p) d) (commit_keeps transactions t p d w) (ends_here o history entry t transactions w.was (w.ends_is ∙ left)) refl (eqb-true d.left 0 left) (omega arith) d.newest w.newest_is)

    -- where one waited
    pub settles_waiting : (transactions : List Transaction) (t : Transaction) (p : Pending) (d : TxnValue) → Awaits transactions t p d → length transactions + 1 ≤ length history → StandsFor o here (settled steps d)
    settles_waiting transactions t p d w within = settle_step transactions t p d w within (eqb d.left 0) refl

    -- where none waited
    pub settles_idle : (transactions : List Transaction) (d : TxnValue) → Keeps o here transactions transactions d.number d.prefix d.current.parts d.windows d.gone → WasIdle o entry history transactions → d.waiting ≡ None → d.left ≡ 0
        → IsNewest (arrangement o here) (last_parts o transactions) d.newest → length transactions ≤ length history → StandsFor o here (settled steps d)
    settles_idle transactions d k was none_waits none_left newest within =
        let StandsHere : TxnValue → Type 0 = StandsFor o here in
        let left : eqb d.left 0 ≡ true = rw none_left refl in
        subst StandsHere (ap (λ z. cond z (followed steps (committed d)) d) (sym left))
        (subst StandsHere (ap (λ z. followed steps (commit_pending z d)) (sym none_waits)) (follow_step transactions d k was none_waits none_left within d.newest newest))
