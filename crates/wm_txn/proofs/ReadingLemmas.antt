-- What the machine tells is what the history says.
use Rattle.std.proofs.Common.{◌≡◌, ℕ, ◌+◌, Bool, true, false, cond, not, ◌&&◌, ◌||◌, eqb, leb, inl, inr, List, [], ◌∷◌, length, Option, Some, None, refl, ap, sym, ◌∙◌, arith}
use Rattle.std.proofs.lemmas.Bool.{eq-eqb, leb-false, leb-true, ne_eqb}
use Rattle.std.specs.Option.{option_map}
use Rattle.wm_base.specs.declared.geometry.Size.{Size}
use Rattle.wm_base.specs.declared.ids.Buffer.{Buffer}
use Rattle.wm_base.specs.declared.ids.ConId.{ConId}
use Rattle.wm_arrange.specs.declared.parts.Placed.{Placed}
use Rattle.wm_arrange.proofs.SameLemmas.{parts-decide}
use Rattle.wm_arrange.specs.Same.{same_parts}
use Rattle.wm_arrange.specs.Sizes.{is_content}
use Rattle.wm_arrange.specs.declared.parts.Arrangement.{Arrangement}
use Rattle.wm_txn.specs.Commits.{configured, begun_transactions, current, done, least, lesser, prefix, prefix_of, shown, started, waiting, waiting_for}
use Rattle.wm_txn.specs.History.{Opening, Entry, arrangement, buffer_up_to, gave, last}
use Rattle.wm_txn.specs.Machine.{TxnValue, configured_of, newest_of, newest_or, shown_of, shown_or, waiting_in}
use Rattle.wm_txn.specs.Windows.{Windows, find, has_acked, is_left, least_left, left_of}
use Rattle.wm_txn.specs.Schedule.{Transaction, answered, configures, contents, last_parts}
use Rattle.wm_txn.specs.Stands.{IsHeld, IsKept, IsNewest, IsScheduled, StandsFor}
use Rattle.wm_txn.specs.declared.answers.Waiting.{Waiting}
use Rattle.wm_txn.specs.declared.held.Held.{Held}
use Rattle.wm_txn.specs.declared.held.Pending.{Pending}
use Rattle.wm_txn.proofs.AnswerLemmas.{has, has_here, has_later, is_left_where}
use Rattle.wm_txn.proofs.GoneLemmas.{left_closed}
use Rattle.wm_txn.proofs.JudgeLemmas.{Sees, sees}
use Rattle.wm_txn.proofs.NumberLemmas.{numbers_idle, numbers_waiting}
use Rattle.wm_txn.proofs.StepLemmas.{Pends, known}

abbrev wait_of : ℕ → ConId → Bool → Waiting
wait_of n v acked = record { number = n; least = v; acked = acked }

module _ (o : Opening) (history : List Entry) (d : TxnValue) (s : StandsFor o history d) where
  abbrev seen : Sees o history d
  seen = sees o history d s

  pub done_is : d.number ≡ done o history
  done_is = seen.keeps.number_is ∙ sym seen.numbers.done_is

  pub prefix_is : d.prefix ≡ prefix o history
  prefix_is = seen.keeps.prefix_is ∙ ap prefix_of (sym seen.numbers.ended_are)

  pub current_is : d.current.parts ≡ current o history
  current_is = seen.keeps.current_is ∙ ap (last_parts o) (sym seen.numbers.ended_are)

  same : (xs ys : List Placed) → same_parts xs ys ≡ true → xs ≡ ys
  same xs ys h = (parts-decide xs ys).0 h

  newest_by : (newest : Option Arrangement) (waits : Option Pending) → IsNewest (arrangement o history) (last_parts o s.begun) newest → IsScheduled o history s.transactions s.begun waits d → (newest_or newest waits d.current).parts ≡ arrangement o history
  newest_by (Some a) waits n sch = n
  newest_by None (Some p) n sch = sch.parts_are ∙ (ap (last_parts o) (sym sch.begun_are) ∙ sym (same (arrangement o history) (last_parts o s.begun) n))
  newest_by None None n sch = s.keeps.current_is ∙ (ap (last_parts o) (sym sch.begun_are) ∙ sym (same (arrangement o history) (last_parts o s.begun) n))

  -- the newest arrangement is that after the history
  pub newest_is : (newest_of d).parts ≡ arrangement o history
  newest_is = newest_by d.newest d.waiting s.newest_is s.schedule

  -- ---- what a window shows

  shown_step : (v : ConId) (w : Held) (transactions begun : List Transaction) → IsHeld o history transactions begun v w → d.number ≡ length transactions → (b : Bool) → leb w.buffer_serial d.number ≡ b → Some (cond b w.buffer w.saved_buffer) ≡ buffer_up_to o d.number v history
  shown_step v w transactions begun h number true at = sym (h.newest_is d.number (leb-true w.buffer_serial d.number at))
  shown_step v w transactions begun h number false at =
      let later = leb-false w.buffer_serial d.number at in
      sym (ap (λ n. buffer_up_to o n v history) number ∙ h.saved_is (omega arith))

  shown_found : (v : ConId) (found : Option Held) (left : Option Buffer) (transactions begun : List Transaction) → IsKept o history transactions begun v found left → d.number ≡ length transactions → shown_or d.number found left ≡ buffer_up_to o d.number v history
  shown_found v None None transactions begun kept number = sym (kept.no_buffer d.number)
  shown_found v None (Some buffer) transactions begun kept number = ap (λ z. Some z) (sym kept.newest_is) ∙ sym (kept.held_is.newest_is d.number (omega (arith, kept.done)))
  shown_found v (Some w) left transactions begun kept number = shown_step v w transactions begun kept number (leb w.buffer_serial d.number) refl

  pub shown_is : (v : ConId) → shown_of v d ≡ shown o v history
  shown_is v = shown_found v (find v d.windows) (left_of v d.gone) seen.transactions seen.begun (seen.keeps.each v) seen.keeps.number_is ∙ ap (λ n. buffer_up_to o n v history) done_is

  -- ---- what a window was configured with

  configured_held : (live zero : Bool) (serial : ℕ) (size : Size) → (cond {A = Option (ℕ × Size)} (live && not zero) (Some (serial, size)) None) ≡ cond {A = Option (ℕ × Size)} live (cond {A = Option (ℕ × Size)} zero None (Some (serial, size))) None
  configured_held false zero serial size = refl
  configured_held true true serial size = refl
  configured_held true false serial size = refl

  configured_found : (v : ConId) (found : Option Held) (left : Option Buffer) (transactions begun : List Transaction) → IsKept o history transactions begun v found left → begun_transactions o history ≡ begun → configured_of found ≡ configured o v history
  configured_found v None left transactions begun kept same_begun = rw (left_closed o history transactions begun v left kept) refl
  configured_found v (Some w) left transactions begun kept same_begun =
      configured_held w.live (eqb w.configure_serial 0) w.configure_serial w.configured_size ∙ sym (rw (kept.live_is, same_begun, kept.latest_is) refl)

  pub configured_is : (v : ConId) → configured_of (find v d.windows) ≡ configured o v history
  configured_is v = configured_found v (find v d.windows) (left_of v d.gone) seen.transactions seen.begun (seen.keeps.each v) seen.numbers.begun_are

  -- ---- the transaction that waits

  least_chosen : (test : ConId → Bool) (v : ConId) (rest : List ConId) (other : Option ConId) (content chosen left : Bool) → (content ≡ true → (chosen && test v) ≡ left) → least test rest ≡ other
      → least test (cond (content && chosen) (v ∷ rest) rest) ≡ cond (content && left) (lesser v other) other
  least_chosen test v rest other false chosen left h same_rest = same_rest
  least_chosen test v rest other true true left h same_rest = rw (h refl, same_rest) refl
  least_chosen test v rest other true false left h same_rest = let none : false ≡ left = h refl in rw (← none) same_rest

  least_parts : (n : ℕ) (windows : Windows) (c test : ConId → Bool) (parts : List Placed) → ((v : ConId) → has v parts ≡ true → (c v && test v) ≡ is_left n (find v windows)) → least test (contents c parts) ≡ least_left n windows parts
  least_parts n windows c test [] h = refl
  least_parts n windows c test (p ∷ parts) h =
      least_chosen test p.con (contents c parts) (least_left n windows parts) (is_content p.part) (c p.con) (is_left n (find p.con windows))
      (λ content. h p.con (has_here p parts content)) (least_parts n windows c test parts (λ v there. h v (has_later v p parts there)))

  -- the least one that passes does
  least_passes : (test : ConId → Bool) (v : ConId) (views : List ConId) → least test views ≡ Some v → test v ≡ true
  least_passes test v [] at = cc
  least_passes test v (w ∷ views) at = by (test w) refl (least test views) (least_passes test v views) at
    where
      by : (b : Bool) → test w ≡ b → (rest : Option ConId) → (rest ≡ Some v → test v ≡ true) → cond b (lesser w rest) rest ≡ Some v → test v ≡ true
      by false e rest later k = later k
      by true e None later k = let same_id : w ≡ v = cc in ap test (sym same_id) ∙ e
      by true e (Some x) later k = between (leb w.0 x.0) k
        where
          between : (c : Bool) → cond c (Some w) (Some x) ≡ Some v → test v ≡ true
          between true m = let same_id : w ≡ v = cc in ap test (sym same_id) ∙ e
          between false m = later m

  acked_found : (v : ConId) (found : Option Held) (left : Option Buffer) (transactions begun : List Transaction) (n : ℕ) → IsKept o history transactions begun v found left → not (answered o n history v) ≡ true → has_acked n found ≡ (eqb (last v history) n)
  acked_found v None left transactions begun n kept awaited =
      let closed = left_closed o history transactions begun v left kept in
      let gone : answered o n history v ≡ true = ap (λ b. gave n v history || not b) closed ∙ either (gave n v history) in
      let bad : false ≡ true = ap not (sym gone) ∙ awaited in
      cc
    where
      either : (b : Bool) → (b || true) ≡ true
      either true = refl
      either false = refl
  acked_found v (Some w) left transactions begun n kept awaited = rw kept.last_is refl

  waiting_here : (transactions : List Transaction) (t : Transaction) (p : Pending) → Pends o history transactions t p d → waiting_in (length transactions + 1) d.windows (Some p) ≡ waiting_for o (length transactions + 1) history t
  waiting_here transactions t p w =
      let n = length transactions + 1 in
      let test : ConId → Bool = λ v. not (answered o n history v) in
      let chosen : (v : ConId) → has v t.parts ≡ true → (configures transactions t.parts v && test v) ≡ is_left n (find v d.windows) = λ v there. is_left_where o history transactions t d.windows d.gone v (find v d.windows) (left_of v d.gone) (w.keeps.each v) in
      let same_least : least_left n d.windows p.arrangement.parts ≡ least test t.awaits =
      ap (least_left n d.windows) w.parts_are ∙ (sym (least_parts n d.windows (configures transactions t.parts) test t.parts chosen) ∙ ap (least test) (sym w.awaits_are)) in
      rw same_least (each (least test t.awaits) (λ v at. least_passes test v t.awaits at))
    where
      each : (found : Option ConId) → ((v : ConId) → found ≡ Some v → not (answered o (length transactions + 1) history v) ≡ true) → option_map (λ (v : ConId). wait_of (length transactions + 1) v (has_acked (length transactions + 1) (find v d.windows))) found
          ≡ option_map (λ (v : ConId). wait_of (length transactions + 1) v (eqb (last v history) (length transactions + 1))) found
      each None passes = refl
      each (Some v) passes = ap (λ b. Some (wait_of (length transactions + 1) v b)) (acked_found v (find v d.windows) (left_of v d.gone) transactions (t ∷ transactions) (length transactions + 1) (w.keeps.each v) (passes v refl))

  pub waiting_is : waiting_in (d.number + 1) d.windows d.waiting ≡ waiting o history
  waiting_is = elim (known o history d s) [
    | inl r ↦
        let numbers = numbers_idle o history r.0 r.1.idle_is.done r.1.idle_is r.1.within in
        let same_numbers : eqb (started o history) (done o history) ≡ true = eq-eqb (started o history) (done o history) (numbers.started_is ∙ sym numbers.done_is) in
        rw (r.1.none_waits, same_numbers) refl
    | inr w ↦
        let transactions = w.0 in
        let numbers = numbers_waiting o history transactions w.3.waiting_is.done w.1 w.3.waiting_is w.3.within in
        let other : eqb (started o history) (done o history) ≡ false = ne_eqb (started o history) (done o history) (λ e. omega (arith, numbers.started_is, numbers.done_is)) in
        let number : d.number + 1 ≡ length transactions + 1 = ap (λ n. n + 1) w.3.keeps.number_is in
        rw (w.3.pending_is, other, numbers.begun_are, number) (waiting_here transactions w.1 w.2 w.3)
  ]
