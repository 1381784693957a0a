-- The queue of the windows that are awaited: how it comes, and that it stays one while they answer and close.
use Rattle.std.proofs.Common.{◌≡◌, ◌≤◌, ◌<◌, ℕ, suc, ◌+◌, ◌==◌, Bool, true, false, cond, ◌&&◌, List, [], ◌∷◌, length, Option, Some, None, refl, ap, sym, subst, ◌∙◌, arith, nat_le, nat_lt}
use Rattle.std.proofs.Math.ListN.{get_or}
use Rattle.std.proofs.lemmas.Bool.Decides.{nat_tests}
use Rattle.std.proofs.lemmas.List.Sorted.{sum_by-IsPermutation}
use Rattle.std.proofs.lemmas.List.Sums.{sum_by-cons}
use Rattle.std.specs.List.{list_any, sum_by}
use Rattle.std.specs.List.Sorted.{IsNonDecreasingBy, IsPermutation}
use Rattle.std.specs.Option.{option_map}
use Rattle.wm_arrange.specs.declared.parts.Placed.{Placed}
use Rattle.wm_arrange.specs.Sizes.{is_content}
use Rattle.wm_base.specs.declared.ids.Buffer.{Buffer}
use Rattle.wm_base.specs.declared.ids.ConId.{ConId}
use Rattle.wm_forest.specs.Look.{same}
use Rattle.wm_txn.specs.Commits.{least, lesser}
use Rattle.wm_txn.specs.Queue.{AreFewer, IsQueue, IsQueued, first_left, lefts}
use Rattle.wm_txn.specs.Windows.{Windows, close_all, find, held_of, is_left, is_unanswered, least_left, one_if, open_fresh, put}
use Rattle.wm_txn.specs.declared.held.Held.{Held}
use Rattle.wm_txn.specs.declared.held.Pending.{Pending}
use Rattle.wm_txn.proofs.CloseLemmas.{close_if, find_closed}
use Rattle.wm_txn.proofs.WindowLemmas.{find_insert, find_put, one_id}

-- ---- fewer windows are left

pub queue_fewer : (n : ℕ) (old new : Windows) (parts : List Placed) (ids : List ConId) → AreFewer n old new → IsQueue n old parts ids → IsQueue n new parts ids
queue_fewer n old new parts ids fewer q w less = q w (λ v h. fewer v (less v h))

pub queued_fewer : (n : ℕ) (old new : Windows) (waiting : Option Pending) (ids : Option (List ConId)) → AreFewer n old new → IsQueued n old waiting ids → IsQueued n new waiting ids
queued_fewer n old new None ids fewer q = tt
queued_fewer n old new (Some p) None fewer q = tt
queued_fewer n old new (Some p) (Some ids) fewer q = queue_fewer n old new p.arrangement.parts ids fewer q

-- one that is awaited after another value is put for it was so before
pub fewer_put : (n : ℕ) (v : ConId) (before after : Held) (windows : Windows) → find v windows ≡ Some before → (is_unanswered n after ≡ true → is_unanswered n before ≡ true)
    → AreFewer n windows (put v after windows)
fewer_put n v before after windows at h u left = by_test (same v u) refl (ap (is_left n) (sym (find_put v u after before windows at)) ∙ left)
  where
    by_test : (b : Bool) → same v u ≡ b → is_left n (cond b (Some after) (find u windows)) ≡ true → is_left n (find u windows) ≡ true
    by_test true e l = subst (λ z. is_left n (find z windows) ≡ true) (one_id v u e) (ap (is_left n) at ∙ h l)
    by_test false e l = l

never_zero : (n : ℕ) → (0 == n + 1) ≡ true → ⊥
never_zero n = grind (arith, nat_tests)

new_awaited : (n : ℕ) (buffer : Buffer) → is_unanswered (n + 1) (held_of buffer) ≡ true → ⊥
new_awaited n buffer h = by_test (0 == n + 1) refl h
  where
    by_test : (b : Bool) → (0 == n + 1) ≡ b → (b && nat_lt 0 (n + 1)) ≡ true → ⊥
    by_test true e l = never_zero n e
    by_test false e l = cc

-- a window that is mapped is awaited by nobody yet
pub fewer_opened : (n : ℕ) (fresh : Option (ConId × Buffer)) (windows : Windows) → AreFewer (n + 1) windows (open_fresh fresh windows)
fewer_opened n None windows v left = left
fewer_opened n (Some window) windows v left =
    by_test (same window.0 v) (ap (is_left (n + 1)) (sym (find_insert window.0 v (held_of window.1) windows)) ∙ left)
  where
    by_test : (b : Bool) → is_left (n + 1) (cond b (Some (held_of window.1)) (find v windows)) ≡ true → is_left (n + 1) (find v windows) ≡ true
    by_test true l = absurd (new_awaited n window.1 l)
    by_test false l = l

-- nor is one that closes
pub fewer_closed : (n : ℕ) (gone : List ConId) (windows : Windows) → AreFewer n windows (close_all gone windows)
fewer_closed n gone windows v left = by_found (list_any (same v) gone) (find v windows) (ap (is_left n) (sym (find_closed v gone windows)) ∙ left)
  where
    by_found : (b : Bool) (o : Option Held) → is_left n (option_map (close_if b) o) ≡ true → is_left n o ≡ true
    by_found b None l = l
    by_found true (Some w) l = cc
    by_found false (Some w) l = l

-- the first one of the queue may go where it has answered or closed
pub queue_trimmed : (n : ℕ) (windows : Windows) (parts : List Placed) (v : ConId) (ids : List ConId) → is_left n (find v windows) ≡ false → IsQueue n windows parts (v ∷ ids) → IsQueue n windows parts ids
queue_trimmed n windows parts v ids answered q new fewer = q new fewer ∙ ap (λ b. cond b (Some v) (first_left n new ids)) (still (is_left n (find v new)) refl)
  where
    still : (b : Bool) → is_left n (find v new) ≡ b → is_left n (find v new) ≡ false
    still true e = let h : is_left n (find v windows) ≡ true = fewer v e in cc
    still false e = e

-- ---- how the queue comes

-- how often v is among these
abbrev pub times : ConId → List ConId → ℕ
times v [] = 0
times v (u ∷ ids) = one_if (same u v) + times v ids

times_sum : (v : ConId) (ids : List ConId) → times v ids ≡ sum_by (λ u. one_if (same u v)) ids
times_sum v [] = refl
times_sum v (u ∷ ids) = ap (λ n. one_if (same u v) + n) (times_sum v ids) ∙ sym (sum_by-cons (λ u. one_if (same u v)) u ids)

-- v is the least of these that passes, or none passes
abbrev IsLeast : (ConId → Bool) → List ConId → Option ConId → Type 0
IsLeast test ids None = (u : ConId) → 1 ≤ times u ids → test u ≡ false
IsLeast test ids (Some v) = (test v ≡ true) × ((1 ≤ times v ids) × ((u : ConId) → 1 ≤ times u ids → test u ≡ true → v.0 ≤ u.0))

same_number : (a b : ConId) → a.0 ≡ b.0 → a ≡ b
same_number a b e = ap (λ (n : ℕ). record { 0 = n }) e

one_least : (test : ConId → Bool) (ids : List ConId) (r s : Option ConId) → IsLeast test ids r → IsLeast test ids s → r ≡ s
one_least test ids None None p q = refl
one_least test ids None (Some v) p q = let h : test v ≡ false = p v q.1.0 in let k : test v ≡ true = q.0 in cc
one_least test ids (Some v) None p q = let h : test v ≡ false = q v p.1.0 in let k : test v ≡ true = p.0 in cc
one_least test ids (Some v) (Some u) p q =
    let below : v.0 ≤ u.0 = p.1.1 u q.1.0 q.0 in
    let above : u.0 ≤ v.0 = q.1.1 v p.1.0 p.0 in
    ap (λ z. Some z) (same_number v u (omega arith))

own : (v : ConId) → same v v ≡ true
own v = grind (arith, nat_tests)

-- one that is among v and the rest is v, or among the rest
among : (v u : ConId) (ids : List ConId) → 1 ≤ times u (v ∷ ids) → (C : Type 0) → (v ≡ u → C) → (1 ≤ times u ids → C) → C
among v u ids h C here there = by_test (same v u) refl
  where
    by_test : (b : Bool) → same v u ≡ b → C
    by_test true e = here (one_id v u e)
    by_test false e = there (let k : one_if (same v u) ≡ 0 = ap one_if e in omega arith)

first_among : (v : ConId) (ids : List ConId) → 1 ≤ times v (v ∷ ids)
first_among v ids = let k : one_if (same v v) ≡ 1 = ap one_if (own v) in omega arith

later_among : (v u : ConId) (ids : List ConId) → 1 ≤ times u ids → 1 ≤ times u (v ∷ ids)
later_among v u ids h = omega arith

-- v does not pass, so the least of the rest is that of all
least_past : (test : ConId → Bool) (v : ConId) (ids : List ConId) (r : Option ConId) → test v ≡ false → IsLeast test ids r → IsLeast test (v ∷ ids) r
least_past test v ids None failed p = λ u h. among v u ids h (test u ≡ false) (λ e. subst (λ z. test z ≡ false) e failed) (p u)
least_past test v ids (Some w) failed p =
    (p.0, (later_among v w ids p.1.0, λ u h passed. among v u ids h (w.0 ≤ u.0) (λ e. let k : test u ≡ false = subst (λ z. test z ≡ false) e failed in cc) (λ t. p.1.1 u t passed)))

-- v passes, and is the least where it is no greater than what passes of the rest
least_here : (test : ConId → Bool) (v : ConId) (ids : List ConId) → test v ≡ true → ((u : ConId) → 1 ≤ times u ids → test u ≡ true → v.0 ≤ u.0) → IsLeast test (v ∷ ids) (Some v)
least_here test v ids passed low =
    (passed, (first_among v ids, λ u h t. among v u ids h (v.0 ≤ u.0) (λ e. let k : v.0 ≡ u.0 = ap (λ (z : ConId). z.0) e in omega arith) (λ there. low u there t)))

lesser_is : (test : ConId → Bool) (v : ConId) (ids : List ConId) (r : Option ConId) → test v ≡ true → IsLeast test ids r → IsLeast test (v ∷ ids) (lesser v r)
lesser_is test v ids None passed p = least_here test v ids passed (λ u h t. let k : test u ≡ false = p u h in cc)
lesser_is test v ids (Some w) passed p = by_test (nat_le v.0 w.0) refl
  where
    by_test : (b : Bool) → nat_le v.0 w.0 ≡ b → IsLeast test (v ∷ ids) (cond b (Some v) (Some w))
    by_test true e = least_here test v ids passed (λ u h t. let k : w.0 ≤ u.0 = p.1.1 u h t in let l : v.0 ≤ w.0 = grind (arith, nat_tests) in omega arith)
    by_test false e =
        (p.0, (later_among v w ids p.1.0, λ u h t. among v u ids h (w.0 ≤ u.0) (λ same_id. let l : w.0 ≤ v.0 = grind (arith, nat_tests) in subst (λ (z : ConId). w.0 ≤ z.0) same_id l) (λ there. p.1.1 u there t)))

least_is : (test : ConId → Bool) (ids : List ConId) → IsLeast test ids (least test ids)
least_is test [] = λ u h. absurd (omega arith)
least_is test (v ∷ ids) = by_test (test v) refl (least_is test ids)
  where
    by_test : (b : Bool) → test v ≡ b → IsLeast test ids (least test ids) → IsLeast test (v ∷ ids) (cond b (lesser v (least test ids)) (least test ids))
    by_test true e p = lesser_is test v ids (least test ids) e p
    by_test false e p = least_past test v ids (least test ids) e p

-- the first that passes
abbrev first : (ConId → Bool) → List ConId → Option ConId
first test [] = None
first test (v ∷ ids) = cond (test v) (Some v) (first test ids)

-- v is no greater than any of these
abbrev IsLow : ConId → List ConId → Type 0
IsLow v ids = (j : ℕ) (d : ConId) → j < length ids → v.0 ≤ (get_or ids j d).0

low_of : (v : ConId) (ids : List ConId) → IsLow v ids → (u : ConId) → 1 ≤ times u ids → v.0 ≤ u.0
low_of v [] low u h = absurd (omega arith)
low_of v (w ∷ ids) low u h =
    among w u ids h (v.0 ≤ u.0) (λ e. subst (λ (z : ConId). v.0 ≤ z.0) e (low 0 w (omega arith))) (λ there. low_of v ids (λ j d below. low (suc j) d (omega arith)) u there)

first_is : (test : ConId → Bool) (ids : List ConId) → IsNonDecreasingBy (λ (c : ConId). c.0) ids → IsLeast test ids (first test ids)
first_is test [] sorted = λ u h. absurd (omega arith)
first_is test (v ∷ ids) sorted = by_test (test v) refl (first_is test ids (λ i j d le below. sorted (suc i) (suc j) d (omega arith) (omega arith)))
  where
    low : IsLow v ids
    low j d below = sorted 0 (suc j) d (omega arith) (omega arith)

    by_test : (b : Bool) → test v ≡ b → IsLeast test ids (first test ids) → IsLeast test (v ∷ ids) (cond b (Some v) (first test ids))
    by_test true e p = least_here test v ids e (λ u h t. low_of v ids low u h)
    by_test false e p = least_past test v ids (first test ids) e p

moved : (test : ConId → Bool) (xs ys : List ConId) (r : Option ConId) → IsPermutation xs ys → IsLeast test xs r → IsLeast test ys r
moved test xs ys r p least = by_result r least
  where
    count : (u : ConId) → times u ys ≡ times u xs
    count u = times_sum u ys ∙ (sum_by-IsPermutation (λ w. one_if (same w u)) xs ys p ∙ sym (times_sum u xs))

    back : (u : ConId) → 1 ≤ times u ys → 1 ≤ times u xs
    back u h = let c = count u in omega arith

    by_result : (r : Option ConId) → IsLeast test xs r → IsLeast test ys r
    by_result None l = λ u h. l u (back u h)
    by_result (Some v) l = (l.0, (let c = count v in let k = l.1.0 in omega arith, λ u h t. l.1.1 u (back u h) t))

-- the least left among the parts is the least left of those listed
least_listed : (n : ℕ) (windows new : Windows) (parts : List Placed) → AreFewer n windows new → least_left n new parts ≡ least (λ v. is_left n (find v new)) (lefts n windows parts)
least_listed n windows new [] fewer = refl
least_listed n windows new (p ∷ parts) fewer =
    by_tests (is_content p.part) (is_left n (find p.con windows)) (is_left n (find p.con new)) refl refl (least_listed n windows new parts fewer)
  where
    test : ConId → Bool
    test v = is_left n (find v new)

    here : (c : Bool) → test p.con ≡ c → (ids : List ConId) → least test (p.con ∷ ids) ≡ cond c (lesser p.con (least test ids)) (least test ids)
    here c e ids = ap (λ z. cond z (lesser p.con (least test ids)) (least test ids)) e

    by_tests : (a b c : Bool) → is_left n (find p.con windows) ≡ b → is_left n (find p.con new) ≡ c → least_left n new parts ≡ least test (lefts n windows parts)
        → cond (a && c) (lesser p.con (least_left n new parts)) (least_left n new parts) ≡ least test (cond (a && b) (p.con ∷ lefts n windows parts) (lefts n windows parts))
    by_tests true true true eb ec rest = ap (lesser p.con) rest ∙ sym (here true ec (lefts n windows parts))
    by_tests true true false eb ec rest = rest ∙ sym (here false ec (lefts n windows parts))
    by_tests true false true eb ec rest = let h : is_left n (find p.con windows) ≡ true = fewer p.con ec in cc
    by_tests true false false eb ec rest = rest
    by_tests false b c eb ec rest = rest

first_same : (n : ℕ) (windows : Windows) (ids : List ConId) → first_left n windows ids ≡ first (λ v. is_left n (find v windows)) ids
first_same n windows [] = refl
first_same n windows (v ∷ ids) = ap (cond (is_left n (find v windows)) (Some v)) (first_same n windows ids)

-- the windows that are left, sorted by their ids, are a queue
pub queue_made : (n : ℕ) (windows : Windows) (parts : List Placed) (ids : List ConId) → IsPermutation (lefts n windows parts) ids → IsNonDecreasingBy (λ (c : ConId). c.0) ids → IsQueue n windows parts ids
queue_made n windows parts ids p sorted new fewer =
    let test : ConId → Bool = λ v. is_left n (find v new) in
    let listed = lefts n windows parts in
    least_listed n windows new parts fewer
    ∙ (one_least test ids (least test listed) (first test ids) (moved test listed ids (least test listed) p (least_is test listed)) (first_is test ids sorted)
    ∙ sym (first_same n new ids))
