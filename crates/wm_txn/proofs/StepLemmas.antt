-- The machine that stood for what was accepted stands for it with one more entry.
use Rattle.std.proofs.Common.{◌≡◌, ℕ, suc, ◌+◌, ◌≤◌, ◌<◌, true, false, eqb, ◌⊎◌, inl, inr, List, ◌∷◌, length, Option, Some, None, refl, ap, sym, ◌∙◌, subst, arith}
use Rattle.std.proofs.lemmas.Bool.{ne_eqb}
use Rattle.wm_arrange.specs.declared.parts.Arrangement.{Arrangement}
use Rattle.wm_arrange.specs.declared.parts.Placed.{Placed}
use Rattle.wm_arrange.specs.Same.{same_parts}
use Rattle.wm_txn.specs.History.{Opening, Entry, arrangement}
use Rattle.wm_txn.specs.Machine.{TxnValue, settled}
use Rattle.wm_txn.specs.Windows.{Windows, count_unanswered}
use Rattle.wm_txn.specs.Schedule.{Transaction, configures, contents, is_named, last_parts}
use Rattle.wm_txn.specs.Stands.{Idles, IsIdle, IsNewest, IsScheduled, IsWaiting, Keeps, StandsFor, Waits}
use Rattle.wm_txn.specs.declared.held.Pending.{Pending}
use Rattle.wm_txn.proofs.AnswerLemmas.{answered_is}
use Rattle.wm_txn.proofs.DueLemmas.{OneMore}
use Rattle.wm_txn.proofs.FollowLemmas.{Awaits, or_none, settles_idle, settles_waiting, stands_idle, stands_waiting}
use Rattle.wm_txn.proofs.ScheduleLemmas.{was_idle, was_waiting}

-- ---- the transactions that the machine knows

-- the transaction t waits
pub record Pends (o : Opening) (history : List Entry) (transactions : List Transaction) (t : Transaction) (p : Pending) (d : TxnValue) : Type 0 where
  pub keeps : Keeps o history transactions (t ∷ transactions) d.number d.prefix d.current.parts d.windows d.gone
  pub pending_is : d.waiting ≡ Some p
  pub waiting_is : IsWaiting o history t transactions
  pub prefix_is : p.prefix ≡ t.prefix
  pub parts_are : p.arrangement.parts ≡ t.parts
  pub awaits_are : t.awaits ≡ contents (configures transactions t.parts) t.parts
  pub left_is : d.left ≡ count_unanswered (length transactions + 1) d.windows
  pub some_left : 0 < d.left
  pub newest_is : IsNewest (arrangement o history) t.parts d.newest
  pub within : length transactions + 1 ≤ length history

-- none waits
pub record Rests (o : Opening) (history : List Entry) (transactions : List Transaction) (d : TxnValue) : Type 0 where
  pub keeps : Keeps o history transactions transactions d.number d.prefix d.current.parts d.windows d.gone
  pub none_waits : d.waiting ≡ None
  pub idle_is : IsIdle o history transactions
  pub none_newest : d.newest ≡ None
  pub none_left : d.left ≡ 0
  pub same_arrangement : same_parts (arrangement o history) (last_parts o transactions) ≡ true
  pub within : length transactions ≤ length history

abbrev pub Known : Opening → List Entry → TxnValue → Type 0
Known o history d = ((transactions : List Transaction) × Rests o history transactions d) ⊎ ((transactions : List Transaction) × (t : Transaction) × (p : Pending) × Pends o history transactions t p d)

module _ (o : Opening) (history : List Entry) (d : TxnValue) where
  known_idle : (transactions begun : List Transaction) → Keeps o history transactions begun d.number d.prefix d.current.parts d.windows d.gone → IsNewest (arrangement o history) (last_parts o begun) d.newest → d.waiting ≡ None
      → Idles o history transactions begun d.newest d.left → length begun ≤ length history → Rests o history transactions d
  known_idle transactions begun k newest none i within =
      let Kept : List Transaction → Type 0 = λ z. Keeps o history transactions z d.number d.prefix d.current.parts d.windows d.gone in
      let New : List Transaction → Type 0 = λ z. IsNewest (arrangement o history) (last_parts o z) d.newest in
      let Few : List Transaction → Type 0 = λ z. length z ≤ length history in
      record {
        keeps = subst Kept i.begun_are k;
        none_waits = none;
        idle_is = i.idle_is;
        none_newest = i.none_newest;
        none_left = i.none_left;
        same_arrangement = subst (IsNewest (arrangement o history) (last_parts o transactions)) i.none_newest (subst New i.begun_are newest);
        within = subst Few i.begun_are within;
      }

  known_waiting : (transactions begun : List Transaction) (p : Pending) → Keeps o history transactions begun d.number d.prefix d.current.parts d.windows d.gone → IsNewest (arrangement o history) (last_parts o begun) d.newest → d.waiting ≡ Some p
      → (w : Waits o history transactions begun p d.left d.windows) → length begun ≤ length history → Pends o history transactions w.t p d
  known_waiting transactions begun p k newest some w within =
      let Kept : List Transaction → Type 0 = λ z. Keeps o history transactions z d.number d.prefix d.current.parts d.windows d.gone in
      let New : List Transaction → Type 0 = λ z. IsNewest (arrangement o history) (last_parts o z) d.newest in
      let Few : List Transaction → Type 0 = λ z. length z ≤ length history in
      let few : suc (length transactions) ≤ length history = subst Few w.begun_are within in
      record {
        keeps = subst Kept w.begun_are k;
        pending_is = some;
        waiting_is = w.waiting_is;
        prefix_is = w.prefix_is;
        parts_are = w.parts_are;
        awaits_are = w.awaits_are;
        left_is = w.left_is;
        some_left = w.some_left;
        newest_is = subst New w.begun_are newest;
        within = omega arith;
      }

  known_by : (found : Option Pending) → d.waiting ≡ found → (transactions begun : List Transaction) → Keeps o history transactions begun d.number d.prefix d.current.parts d.windows d.gone → IsNewest (arrangement o history) (last_parts o begun) d.newest
      → IsScheduled o history transactions begun found d → length begun ≤ length history → Known o history d
  known_by None at transactions begun k newest s within = inl (transactions, known_idle transactions begun k newest at s within)
  known_by (Some p) at transactions begun k newest s within = inr (transactions, s.t, p, known_waiting transactions begun p k newest at s within)

  pub known : StandsFor o history d → Known o history d
  known s = known_by d.waiting refl s.transactions s.begun s.keeps s.newest_is s.schedule s.within

-- ---- one more entry

module _ (o : Opening) (history : List Entry) (entry : Entry) (d : TxnValue) (windows : Windows) (left : ℕ) (newest : Option Arrangement)
    (keeps : (transactions begun : List Transaction) → OneMore transactions begun → Keeps o history transactions begun d.number d.prefix d.current.parts d.windows d.gone → Keeps o (entry ∷ history) transactions begun d.number d.prefix d.current.parts windows d.gone)
    (news : (last : List Placed) → IsNewest (arrangement o history) last d.newest → IsNewest (arrangement o (entry ∷ history)) last newest)
    (fewer : d.left ≡ 0 → left ≡ 0)
    (counted : d.left ≡ count_unanswered (d.number + 1) d.windows → left ≡ count_unanswered (d.number + 1) windows)
    (unnamed : (transactions : List Transaction) (t : Transaction) (p : Pending) → Pends o history transactions t p d → is_named (length transactions + 1) t.prefix (entry ∷ history) ≡ false)
  where
    abbrev next_value : TxnValue
    next_value = record d { windows = windows; left = left; newest = newest }

    awaits_after : (transactions : List Transaction) (t : Transaction) (p : Pending) → Pends o history transactions t p d → Awaits o history entry transactions t p next_value
    awaits_after transactions t p w =
        let kept = keeps transactions (t ∷ transactions) (inr (t, refl)) w.keeps in
        let n = length transactions + 1 in
        let number = w.keeps.number_is in
        let left_is : left ≡ count_unanswered n windows = counted (w.left_is ∙ ap (λ z. count_unanswered (z + 1) d.windows) (sym number)) ∙ ap (λ z. count_unanswered (z + 1) windows) number in
        record {
          keeps = kept;
          was = was_waiting o history entry t transactions w.waiting_is;
          waiting_is = w.pending_is;
          prefix_is = w.prefix_is;
          parts_are = w.parts_are;
          awaits_are = w.awaits_are;
          ends_is = or_none _ (is_named n t.prefix (entry ∷ history)) (unnamed transactions t p w)
              ∙ (answered_is o (entry ∷ history) transactions t windows d.gone d.number d.prefix d.current.parts kept w.awaits_are ∙ ap (λ z. eqb z 0) (sym left_is));
          left_is = λ above. left_is;
          newest_is = news t.parts w.newest_is;
        }

    new_idle : (transactions : List Transaction) → Rests o history transactions d → IsNewest (arrangement o (entry ∷ history)) (last_parts o transactions) newest
    new_idle transactions r = news (last_parts o transactions) (subst (IsNewest (arrangement o history) (last_parts o transactions)) (sym r.none_newest) r.same_arrangement)

    -- the machine after it is settled
    pub stands_settled : (steps : ℕ) → steps ≡ length history + 1 → StandsFor o history d → StandsFor o (entry ∷ history) (settled steps next_value)
    stands_settled steps steps_are s = elim (known o history d s) [
      | inl r ↦ settles_idle o history entry steps steps_are r.0 next_value (keeps r.0 r.0 (inl refl) r.1.keeps) (was_idle o history entry r.0 r.1.idle_is) r.1.none_waits (fewer r.1.none_left) (new_idle r.0 r.1) r.1.within
      | inr w ↦ settles_waiting o history entry steps steps_are w.0 w.1 w.2 next_value (awaits_after w.0 w.1 w.2 w.3) w.3.within
    ]

    -- the machine as it is, where as many are left
    pub stands_on : left ≡ d.left → newest ≡ d.newest → StandsFor o history d → StandsFor o (entry ∷ history) next_value
    stands_on same_left same_newest s = elim (known o history d s) [
      | inl r ↦ stands_idle o history entry r.0 next_value (keeps r.0 r.0 (inl refl) r.1.keeps) (was_idle o history entry r.0 r.1.idle_is) r.1.none_waits (fewer r.1.none_left) (same_newest ∙ r.1.none_newest)
          (subst (IsNewest (arrangement o (entry ∷ history)) (last_parts o r.0)) (same_newest ∙ r.1.none_newest) (new_idle r.0 r.1)) (omega (arith, r.1.within))
      | inr w ↦ stands_waiting o history entry w.0 w.1 w.2 next_value (awaits_after w.0 w.1 w.2 w.3) (not_zero w.3.some_left) (omega (arith, w.3.within))
    ]
      where
        not_zero : 0 < d.left → eqb left 0 ≡ false
        not_zero above = ne_eqb left 0 (λ e. omega (arith, same_left))
