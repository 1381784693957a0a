-- Why a window shows its buffer.
use Rattle.std.proofs.Common.{◌≡◌, ℕ, suc, ◌+◌, ◌≤◌, Bool, true, false, cond, not, eqb, leb, ◌⊎◌, inl, inr, List, [], ◌∷◌, length, Option, Some, None, refl, ap, ap₂, sym, ◌∙◌, subst, arith}
use Rattle.std.proofs.lemmas.Bool.{and_parts, eqb-true, leb-false, leb-true, not-false, not-true, or_cases, or_right}
use Rattle.std.specs.List.{list_all}
use Rattle.std.specs.Option.{option_map}
use Rattle.wm_base.specs.declared.geometry.Size.{Size}
use Rattle.wm_base.specs.declared.ids.Buffer.{Buffer}
use Rattle.wm_base.specs.declared.ids.ConId.{ConId}
use Rattle.wm_arrange.specs.Sizes.{content_size}
use Rattle.wm_txn.specs.Commits.{done, ended_transactions}
use Rattle.wm_txn.specs.Accepted.{accepted}
use Rattle.wm_txn.specs.History.{Opening, Entry, gave, is_open, under_up_to}
use Rattle.wm_txn.specs.Machine.{TxnValue}
use Rattle.wm_txn.specs.Windows.{find, left_of}
use Rattle.wm_txn.specs.Schedule.{Transaction, answered, configure, configures, contents, ended, first_when, is_named, is_new, last_parts, may_end, or_here, past, same_size}
use Rattle.wm_txn.specs.Shown.{HasConfiguredSize, ShowsAnswer, ShowsOpening}
use Rattle.wm_txn.specs.Stands.{IsHeld, IsKept, Stands, serial_of}
use Rattle.wm_txn.specs.declared.held.Held.{Held}
use Rattle.wm_txn.proofs.AnswerLemmas.{configure_le, each_passes, new_some}
use Rattle.wm_txn.proofs.JudgeLemmas.{Sees, sees}
use Rattle.wm_txn.proofs.BeginLemmas.{beginning, first_holds, past_length}
use Rattle.wm_txn.proofs.LastingLemmas.{done_ended, done_past}

-- ---- the size

sizes_same : (a b : Size) → same_size a b ≡ true → a ≡ b
sizes_same a b h =
    let p = and_parts (eqb a.w b.w) (eqb a.h b.h) h in
    let of : ℕ → ℕ → Size = λ w h. record { w = w; h = h } in
    ap₂ of (eqb-true a.w b.w p.0) (eqb-true a.h b.h p.1)

abbrev size_in : Option (ℕ × Size) → Size → Size
size_in None other = other
size_in (Some configure) other = configure.1

last_size : (n : ℕ) (size : Size) (before : Option (ℕ × Size)) (b : Bool) → is_new (Some size) before ≡ b → (c : ℕ × Size) → cond b (Some (n, size)) before ≡ Some c → c.1 ≡ size
last_size n size before true new c h = ap (λ z. size_in z size) (sym h)
last_size n size None false new c h = let bad : true ≡ false = new in cc
last_size n size (Some b) false new c h =
    ap (λ z. size_in z size) (sym h) ∙ sizes_same b.1 size (not-false (same_size b.1 size) new)

-- a content has the size that was configured
configured_is_size : (v : ConId) (transactions : List Transaction) (o : Opening) (size : Size) (c : ℕ × Size) → content_size v (last_parts o transactions) ≡ Some size → configure v transactions ≡ Some c → c.1 ≡ size
configured_is_size v [] o size c content h = cc
configured_is_size v (t ∷ transactions) o size c content h =
    last_size (length transactions + 1) size (configure v transactions) (is_new (Some size) (configure v transactions)) refl c (rw content at h)

pub has_configured_size : HasConfiguredSize
has_configured_size o history v size configured i content h = configured_is_size v (ended_transactions o (accepted o history)) o size (i, configured) content h

-- ---- the buffer

gave_later : (i : ℕ) (v : ConId) (found : Option (List Entry)) (passes : Bool) (history place : List Entry) → or_here found passes history ≡ Some place → ((z : List Entry) → found ≡ Some z → gave i v z ≡ true → gave i v history ≡ true)
    → gave i v place ≡ true → gave i v history ≡ true
gave_later i v (Some z) passes history place h later gave_it = later z refl (let e : z ≡ place = cc in ap (gave i v) e ∙ gave_it)
gave_later i v None true history place h later gave_it = let e : history ≡ place = cc in ap (gave i v) e ∙ gave_it
gave_later i v None false history place h later gave_it = cc

-- what was given at a beginning of the history was given in it
gave_since : (test : List Entry → Bool) (n i : ℕ) (v : ConId) (history place : List Entry) → first_when test n history ≡ Some place → gave i v place ≡ true → gave i v history ≡ true
gave_since test n i v [] place h gave_it = gave_later i v None _ [] place h (λ z none. cc) gave_it
gave_since test n i v (entry ∷ history) place h gave_it =
    gave_later i v (first_when test n history) _ (entry ∷ history) place h (λ z found before. or_right _ (gave i v history) (gave_since test n i v history z found before)) gave_it

chosen_step : (n i : ℕ) (found : Option Size) (b : Bool) (before : Option (ℕ × Size)) (configured : Size) → cond b (option_map (λ s. (n, s)) found) before ≡ Some (i, configured) → ((b ≡ true) × (i ≡ n)) ⊎ (before ≡ Some (i, configured))
chosen_step n i found false before configured h = inr h
chosen_step n i None true before configured h = cc
chosen_step n i (Some s) true before configured h = inl (refl, sym (ap serial_of h))

abbrev chosen_of : ConId → List Transaction → Type 0
chosen_of v [] = Unit {0}
chosen_of v (t ∷ us) = configures us t.parts v ≡ true

-- transaction i configures v where it is the latest to do so
chosen : (o : Opening) (history : List Entry) (v : ConId) (i : ℕ) (configured : Size) (transactions : List Transaction) → past o (length transactions) history ≡ Some transactions → configure v transactions ≡ Some (i, configured)
    → (t : Transaction) (us : List Transaction) → past o i history ≡ Some (t ∷ us) → configures us t.parts v ≡ true
chosen o history v i configured [] known h t us at = cc
chosen o history v i configured (u ∷ transactions) known h t us at =
    elim (chosen_step (length transactions + 1) i (content_size v u.parts) (configures transactions u.parts v) (configure v transactions) configured h) [
      | inl here ↦
          let number : i ≡ suc (length transactions) = omega (arith, here.1) in
          let e : Some (t ∷ us) ≡ Some (u ∷ transactions) = sym at ∙ (ap (λ z. past o z history) number ∙ known) in
          let Chosen : List Transaction → Type 0 = chosen_of v in
          let same_transactions : u ∷ transactions ≡ t ∷ us = cc in
          subst Chosen same_transactions here.0
      | inr before ↦ chosen o history v i configured transactions (beginning o history (past o (length transactions) history) u transactions known).before_is before t us at
    ]

record IsUnder (i : ℕ) (v : ConId) (number : ℕ) (history : List Entry) : Type 0 where
  least : i ≤ under_up_to number v history
  most : under_up_to number v history ≤ i

under_held : (o : Opening) (history : List Entry) (transactions others : List Transaction) (v : ConId) (i : ℕ) (configured : Size) (w : Held) → IsHeld o history transactions others v w → configure v transactions ≡ Some (i, configured) → gave i v history ≡ true → i ≤ length transactions
    → IsUnder i v (length transactions) history
under_held o history transactions others v i configured w kept h gave_it le = record { least = kept.numbers.gave_shown i gave_it le; most = omega (arith, kept.numbers.shown_le, ap serial_of h) }

under_found : (o : Opening) (history : List Entry) (transactions others : List Transaction) (v : ConId) (i : ℕ) (configured : Size) (found : Option Held) (left : Option Buffer) → IsKept o history transactions others v found left → configure v transactions ≡ Some (i, configured) → gave i v history ≡ true → i ≤ length transactions
    → IsUnder i v (length transactions) history
under_found o history transactions others v i configured None None kept h gave_it le = let bad : false ≡ true = sym (kept.no_gift i) ∙ gave_it in cc
under_found o history transactions others v i configured None (Some buffer) kept h gave_it le = under_held o history transactions others v i configured kept.held kept.held_is h gave_it le
under_found o history transactions others v i configured (Some w) left kept h gave_it le = under_held o history transactions others v i configured w kept h gave_it le

module _ (o : Opening) (history : List Entry) (d : TxnValue) (e : Sees o history d) (v : ConId) (configured : Size) (i : ℕ) (h : configure v e.transactions ≡ Some (i, configured)) (done_known : past o (length e.transactions) history ≡ Some e.transactions) where
  shown_by_answer : (t : Transaction) (transactions : List Transaction) (place : List Entry) → past o i history ≡ Some (t ∷ transactions) → ended o (t ∷ transactions) history ≡ Some place
      → (under_up_to (length e.transactions) v history ≡ i) ⊎ ((is_named i t.prefix place ≡ true) ⊎ (is_open o v place ≡ false))
  shown_by_answer t transactions place at ended_at =
      let number : suc (length transactions) ≡ i = past_length o history i (t ∷ transactions) at in
      let n_is : length transactions + 1 ≡ i = omega arith in
      let test = may_end o (length transactions + 1) t in
      let may = first_holds test t.prefix history place ended_at in
      let le = configure_le v e.transactions i configured h in
      elim (or_cases (list_all (answered o (length transactions + 1) place) t.awaits) (is_named (length transactions + 1) t.prefix place) may) [
        | inr named ↦ inr (inl (ap (λ z. is_named z t.prefix place) (sym n_is) ∙ named))
        | inl all ↦
            let configures_it = chosen o history v i configured e.transactions done_known h t transactions at in
            let b = beginning o history (past o (length transactions) history) t transactions (ap (λ z. past o z history) number ∙ at) in
            let parts = t.parts in
            let awaits : t.awaits ≡ contents (configures transactions t.parts) t.parts = rw b.transaction_is refl in
            let all_chosen : list_all (answered o (length transactions + 1) place) (contents (configures transactions t.parts) t.parts) ≡ true = ap (list_all (answered o (length transactions + 1) place)) (sym awaits) ∙ all in
            let answer = each_passes (configures transactions t.parts) (answered o (length transactions + 1) place) t.parts all_chosen v (new_some (content_size v t.parts) (configure v transactions) configures_it) configures_it in
            elim (or_cases (gave (length transactions + 1) v place) (not (is_open o v place)) answer) [
              | inr closed ↦ inr (inr (not-true (is_open o v place) closed))
              | inl gave_it ↦
                  let since : gave (length transactions + 1) v history ≡ true = gave_since test t.prefix (length transactions + 1) v history place ended_at gave_it in
                  let bounds = under_found o history e.transactions e.begun v i configured (find v d.windows) (left_of v d.gone) (e.keeps.each v) h (ap (λ z. gave z v history) (sym n_is) ∙ since) le in
                  inl (omega (arith, bounds.least, bounds.most))
            ]
      ]

shows_when : (o : Opening) (history : List Entry) (d : TxnValue) → Stands o history d → (v : ConId) (configured : Size) (i : ℕ) → configure v (ended_transactions o (accepted o history)) ≡ Some (i, configured)
    → (t : Transaction) (transactions : List Transaction) (place : List Entry) → past o i (accepted o history) ≡ Some (t ∷ transactions) → ended o (t ∷ transactions) (accepted o history) ≡ Some place
    → (under_up_to (done o (accepted o history)) v (accepted o history) ≡ i) ⊎ ((is_named i t.prefix place ≡ true) ⊎ (is_open o v place ≡ false))
shows_when o history d s v configured i h t transactions place at ended_at =
    let g = accepted o history in
    let e = sees o g d s in
    let known : past o (length e.transactions) g ≡ Some e.transactions = ap (λ z. past o z g) (sym e.numbers.done_is) ∙ (done_past o g ∙ ap (λ z. Some z) e.numbers.ended_are) in
    let configured_last : configure v e.transactions ≡ Some (i, configured) = ap (configure v) (sym e.numbers.ended_are) ∙ h in
    let Answers : ℕ → Type 0 = λ z. (under_up_to z v g ≡ i) ⊎ ((is_named i t.prefix place ≡ true) ⊎ (is_open o v place ≡ false)) in
    subst Answers (sym e.numbers.done_is) (shown_by_answer o g d e v configured i configured_last known t transactions place at ended_at)

-- ---- its transaction

-- transaction i began and ended
record HasRun (o : Opening) (history : List Entry) (i : ℕ) : Type 0 where
  transaction : Transaction
  before : List Transaction
  place : List Entry
  begun_is : past o i history ≡ Some (transaction ∷ before)
  ended_at : ended o (transaction ∷ before) history ≡ Some place

-- each of these did, where the last of them ended
has_run : (o : Opening) (history : List Entry) (transactions : List Transaction) (place : List Entry) → past o (length transactions) history ≡ Some transactions → ended o transactions history ≡ Some place → (i : ℕ) → 1 ≤ i → i ≤ length transactions → HasRun o history i
has_run o history [] place known at i some le = absurd (omega (arith, some, le))
has_run o history (t ∷ transactions) place known at i some le =
    let b = beginning o history (past o (length transactions) history) t transactions known in
    by (leb i (length transactions)) refl (λ within. has_run o history transactions b.ended_place b.before_is b.ended_at i some within)
  where
    by : (c : Bool) → leb i (length transactions) ≡ c → (i ≤ length transactions → HasRun o history i) → HasRun o history i
    by true e earlier = earlier (leb-true i (length transactions) e)
    by false e earlier =
        let number : suc (length transactions) ≡ i = omega (arith, leb-false i (length transactions) e, le) in
        record { transaction = t; before = transactions; place = place; begun_is = ap (λ n. past o n history) (sym number) ∙ known; ended_at = at }

number_by : (n i : ℕ) (size : Size) (found : Option Size) (b : Bool) (before : Option (ℕ × Size)) → cond b (option_map (λ s. (n + 1, s)) found) before ≡ Some (i, size) → (before ≡ Some (i, size) → 1 ≤ i) → 1 ≤ i
number_by n i size None true before h rest = cc
number_by n i size (Some s) true before h rest = omega (arith, ap serial_of h)
number_by n i size found false before h rest = rest h

-- the transactions are numbered from 1
configure_some : (v : ConId) (transactions : List Transaction) (i : ℕ) (size : Size) → configure v transactions ≡ Some (i, size) → 1 ≤ i
configure_some v [] i size h = cc
configure_some v (t ∷ transactions) i size h = number_by (length transactions) i size (content_size v t.parts) (configures transactions t.parts v) (configure v transactions) h (λ before. configure_some v transactions i size before)

pub shows_answer : ShowsAnswer
shows_answer o history d s v configured i h =
    let g = accepted o history in
    let last = done_ended o g in
    let known : past o (length (ended_transactions o g)) g ≡ Some (ended_transactions o g) = ap (λ n. past o n g) (past_length o g (done o g) (ended_transactions o g) (done_past o g)) ∙ done_past o g in
    let run = has_run o g (ended_transactions o g) last.0 known last.1 i (configure_some v (ended_transactions o g) i configured h) (configure_le v (ended_transactions o g) i configured h) in
    record {
      transaction = run.transaction;
      before = run.before;
      place = run.place;
      begun_is = run.begun_is;
      ended_at = run.ended_at;
      shows = shows_when o history d s v configured i h run.transaction run.before run.place run.begun_is run.ended_at;
    }

-- ---- the opening

some_chosen : (n : ℕ) (size : Size) (before : Option (ℕ × Size)) (b : Bool) → is_new (Some size) before ≡ b → cond b (Some (n, size)) before ≡ None → ⊥
some_chosen n size before true new h = cc
some_chosen n size None false new h = let bad : true ≡ false = new in cc
some_chosen n size (Some c) false new h = cc

none_ended : (o : Opening) (v : ConId) (transactions : List Transaction) (size : Size) → content_size v (last_parts o transactions) ≡ Some size → configure v transactions ≡ None → transactions ≡ []
none_ended o v [] size content h = refl
none_ended o v (t ∷ transactions) size content h = absurd (some_chosen (length transactions + 1) size (configure v transactions) (is_new (Some size) (configure v transactions)) refl (rw content at h))

opening_held : (o : Opening) (history : List Entry) (transactions others : List Transaction) (v : ConId) (w : Held) → IsHeld o history transactions others v w → transactions ≡ [] → under_up_to (length transactions) v history ≡ 0
opening_held o history transactions others v w kept none = omega (arith, kept.numbers.shown_le, ap (λ z. serial_of (configure v z)) none)

opening_under : (o : Opening) (history : List Entry) (transactions others : List Transaction) (v : ConId) (found : Option Held) (left : Option Buffer) → IsKept o history transactions others v found left → transactions ≡ [] → under_up_to (length transactions) v history ≡ 0
opening_under o history transactions others v None None kept none = kept.no_under (length transactions)
opening_under o history transactions others v None (Some buffer) kept none = opening_held o history transactions others v kept.held kept.held_is none
opening_under o history transactions others v (Some w) left kept none = opening_held o history transactions others v w kept none

pub shows_opening : ShowsOpening
shows_opening o history d s v size content h =
    let g = accepted o history in
    let e = sees o g d s in
    let none : e.transactions ≡ [] = none_ended o v e.transactions size (ap (λ z. content_size v (last_parts o z)) (sym e.numbers.ended_are) ∙ content) (ap (configure v) (sym e.numbers.ended_are) ∙ h) in
    let Under : ℕ → Type 0 = λ z. under_up_to z v g ≡ 0 in
    (e.numbers.done_is ∙ ap length none, subst Under (sym e.numbers.done_is) (opening_under o g e.transactions e.begun v (find v d.windows) (left_of v d.gone) (e.keeps.each v) none))
