-- A transaction that waits is told.
use Rattle.std.proofs.Common.{is_some, ◌≡◌, ℕ, ◌+◌, Bool, true, false, cond, not, ◌&&◌, eqb, leb, inl, inr, List, [], ◌∷◌, length, Option, Some, None, refl, ap, sym, ◌∙◌, arith}
use Rattle.std.proofs.lemmas.Bool.{eq-eqb, ne_eqb}
use Rattle.std.specs.Option.{option_map}
use Rattle.wm_base.specs.declared.geometry.Size.{Size}
use Rattle.wm_base.specs.declared.ids.ConId.{ConId}
use Rattle.wm_arrange.specs.declared.parts.Placed.{Placed}
use Rattle.wm_arrange.specs.Sizes.{content_size, is_content}
use Rattle.wm_txn.specs.Commits.{done, lesser, started, waiting}
use Rattle.wm_txn.specs.History.{Opening, Entry}
use Rattle.wm_txn.specs.Machine.{TxnValue}
use Rattle.wm_txn.specs.Windows.{Windows, is_unanswered, find, is_left, least_left, left_of}
use Rattle.wm_txn.specs.Schedule.{Transaction, answered, configure, configures}
use Rattle.wm_txn.specs.Stands.{StandsFor}
use Rattle.wm_txn.specs.declared.held.Held.{Held}
use Rattle.wm_txn.specs.declared.held.Pending.{Pending}
use Rattle.wm_txn.proofs.AnswerLemmas.{has, is_left_where}
use Rattle.wm_txn.proofs.NumberLemmas.{numbers_idle, numbers_waiting}
use Rattle.wm_txn.proofs.StepLemmas.{Pends, known}
use Rattle.wm_forest.specs.Look.{same}
use Rattle.std.proofs.lemmas.Bool.{and_parts, false_from_ne_true, true_from_ne_false}
use Rattle.wm_txn.specs.Accepted.{accepted}
use Rattle.wm_txn.specs.Standing.{TellsWaiting}
use Rattle.wm_txn.proofs.AnswerLemmas.{new_some}
use Rattle.wm_txn.proofs.ReadingLemmas.{waiting_is}
use Rattle.wm_txn.proofs.WindowLemmas.{all_answered, one_id}

lesser_some : (v : ConId) (other : Option ConId) → is_some (lesser v other) ≡ true
lesser_some v None = refl
lesser_some v (Some w) = by (leb v.0 w.0)
  where
    by : (b : Bool) → is_some (cond b (Some v) (Some w)) ≡ true
    by true = refl
    by false = refl

some_step : (p : Placed) (v : ConId) (size : Size) (found : Option Size) (rest : Option ConId) (s content left : Bool) → (s ≡ true → left ≡ true) → is_some (cond (s && content) (Some size) found) ≡ true → (is_some found ≡ true → is_some rest ≡ true)
    → is_some (cond (content && left) (lesser p.con rest) rest) ≡ true
some_step p v size found rest true true left one there later = rw (one refl) (lesser_some p.con rest)
some_step p v size found rest false true true one there later = lesser_some p.con rest
some_step p v size found rest false true false one there later = later there
some_step p v size found rest true false left one there later = later there
some_step p v size found rest false false left one there later = later there

-- where a window with a content is left, there is a least one
least_some : (n : ℕ) (windows : Windows) (v : ConId) (parts : List Placed) → has v parts ≡ true → is_left n (find v windows) ≡ true → is_some (least_left n windows parts) ≡ true
least_some n windows v [] there left = let bad : false ≡ true = there in cc
least_some n windows v (p ∷ parts) there left =
    some_step p v _ (content_size v parts) (least_left n windows parts) (same p.con v) (is_content p.part) (is_left n (find p.con windows))
    (λ one. ap (λ z. is_left n (find z windows)) (one_id p.con v one) ∙ left) there (λ later. least_some n windows v parts later left)

mapped_some : {A B : Type 0} (f : A → B) (found : Option A) → is_some (option_map f found) ≡ is_some found
mapped_some f None = refl
mapped_some f (Some x) = refl

module _ (o : Opening) (history : List Entry) (d : TxnValue) (s : StandsFor o history d) where
  left_here : (transactions : List Transaction) (t : Transaction) (p : Pending) → Pends o history transactions t p d → is_some (least_left (length transactions + 1) d.windows p.arrangement.parts) ≡ true
  left_here transactions t p w =
      let n = length transactions + 1 in
      true_from_ne_false (is_some (least_left n d.windows p.arrangement.parts)) (λ none.
      let each : (a : ConId) (x : Held) → find a d.windows ≡ Some x → is_unanswered n x ≡ false = λ a x at.
      false_from_ne_true (is_unanswered n x) (λ left.
      let left_a : is_left n (find a d.windows) ≡ true = ap (is_left n) at ∙ left in
      let configures_it = and_parts (configures transactions t.parts a) (not (answered o n history a)) (is_left_where o history transactions t d.windows d.gone a (find a d.windows) (left_of a d.gone) (w.keeps.each a) ∙ left_a) in
      let there = ap (λ z. has a z) w.parts_are ∙ new_some (content_size a t.parts) (configure a transactions) configures_it.0 in
      let bad : true ≡ false = sym (least_some n d.windows a p.arrangement.parts there left_a) ∙ none in
      cc) in
      let zero_left = all_answered n d.windows w.keeps.sorted each in
      absurd (omega (arith, w.left_is, w.some_left)))

  pub waits_told : is_some (waiting o history) ≡ not (eqb (started o history) (done o history))
  waits_told = sym (ap is_some (waiting_is o history d s)) ∙ elim (known o history d s) [
    | inl r ↦
        let numbers = numbers_idle o history r.0 r.1.idle_is.done r.1.idle_is r.1.within in
        let same_numbers : eqb (started o history) (done o history) ≡ true = eq-eqb (started o history) (done o history) (numbers.started_is ∙ sym numbers.done_is) in
        rw (r.1.none_waits, same_numbers) refl
    | inr w ↦
        let transactions = w.0 in
        let numbers = numbers_waiting o history transactions w.3.waiting_is.done w.1 w.3.waiting_is w.3.within in
        let other : eqb (started o history) (done o history) ≡ false = ne_eqb (started o history) (done o history) (λ e. omega (arith, numbers.started_is, numbers.done_is)) in
        let number : d.number + 1 ≡ length transactions + 1 = ap (λ n. n + 1) w.3.keeps.number_is in
        rw (w.3.pending_is, other, number) (mapped_some _ (least_left (length transactions + 1) d.windows w.2.arrangement.parts) ∙ left_here transactions w.1 w.2 w.3)
  ]

pub tells_waiting : TellsWaiting
tells_waiting o history d s = waits_told o (accepted o history) d s
