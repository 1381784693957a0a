-- The windows by id: one that is looked up, and how many have not answered.
use Rattle.std.proofs.Common.{◌≡◌, ℕ, ◌+◌, Bool, true, false, cond, List, [], ◌∷◌, Option, Some, None, refl, ap, sym, ◌∙◌, arith}
use Rattle.std.proofs.lemmas.Bool.{eqb-true}
use Rattle.std.proofs.lemmas.Bool.Decides.{nat_tests}
use Rattle.std.proofs.lemmas.Cmp.{nat_cmp_total}
use Rattle.std.proofs.lemmas.Map.{lookup-none}
use Rattle.std.proofs.lemmas.Map.Entries.{none_past_head}
use Rattle.std.proofs.lemmas.Map.Keys.{sorted_tail, IsDistinct-from_sorted}
use Rattle.std.specs.BTreeMap.{insert_entry, is_at}
use Rattle.std.specs.Cmp.{eq_by_cmp_equiv}
use Rattle.std.specs.List.Sorted.{IsStrictlySortedBy}
use Rattle.std.specs.Map.{keys_of, lookup}
use Rattle.std.specs.Ordering.{nat_cmp, is_eq, match_ordering}
use Rattle.std.specs.declared.cmp.Ordering.{Ordering}
use Rattle.std.specs.declared.cmp.Ordering.TheVariants.{Less, Equal, Greater}
use Rattle.wm_base.specs.declared.ids.ConId.{ConId}
use Rattle.wm_ids.proofs.EntryLemmas.{test_same}
use Rattle.wm_forest.specs.Look.{same}
use Rattle.wm_txn.specs.Windows.{Windows, find, put, one_if, is_unanswered, count_unanswered}
use Rattle.wm_txn.specs.declared.held.Held.{Held}

-- two ids that pass the test are one
pub one_id : (a b : ConId) → same a b ≡ true → a ≡ b
one_id a b h = let of : ℕ → ConId = λ n. record { 0 = n } in ap of (eqb-true a.0 b.0 h)

-- ---- one that is looked up

both : {X : Type 0} (s : Bool) (w x : X) (y : Option X) → cond s (Some w) y ≡ cond s (Some w) (cond s (Some x) y)
both true w x y = refl
both false w x y = refl

swap : {X : Type 0} (t s : Bool) (x w : X) (y : Option X) → (t ≡ true → s ≡ true → t ≡ false) → cond t (Some x) (cond s (Some w) y) ≡ cond s (Some w) (cond t (Some x) y)
swap true true x w y h = let bad : true ≡ false = h refl refl in cc
swap true false x w y h = refl
swap false true x w y h = refl
swap false false x w y h = refl

-- a key that is not a's is not v's where v is a
apart : (a v : ConId) (key : ℕ) → is_at (nat_cmp a.0) key ≡ false → is_at (nat_cmp v.0) key ≡ true → same a v ≡ true → is_at (nat_cmp v.0) key ≡ false
apart a v key at at_v one =
    let same_key : v.0 ≡ key = eqb-true v.0 key (sym (test_same v.0 key) ∙ at_v) in
    let same_id : a.0 ≡ v.0 = eqb-true a.0 v.0 one in
    let bad : is_at (nat_cmp a.0) key ≡ true = test_same a.0 key ∙ grind (arith, nat_tests) in
    let wrong : true ≡ false = sym bad ∙ at in cc

find_step : (a v : ConId) (w : Held) (e : ℕ × Held) (windows : Windows) (b : Bool) → is_at (nat_cmp a.0) e.0 ≡ b → (w0 : Held) → cond b (Some e.1) (find a windows) ≡ Some w0
    → ((x : Held) → find a windows ≡ Some x → find v (put a w windows) ≡ cond (same a v) (Some w) (find v windows))
    → find v (cond b ((e.0, w) ∷ windows) (e ∷ put a w windows)) ≡ cond (same a v) (Some w) (find v (e ∷ windows))
find_step a v w e windows true at w0 there rest =
    let key : a.0 ≡ e.0 = eqb-true a.0 e.0 (sym (test_same a.0 e.0) ∙ at) in
    let t : is_at (nat_cmp v.0) e.0 ≡ same a v = test_same v.0 e.0 ∙ grind (arith, nat_tests) in
    rw t (both (same a v) w e.1 (find v windows))
find_step a v w e windows false at w0 there rest =
    ap (cond (is_at (nat_cmp v.0) e.0) (Some e.1)) (rest w0 there) ∙ swap (is_at (nat_cmp v.0) e.0) (same a v) e.1 w (find v windows) (apart a v e.0 at)

-- after another value is put for a window that is there
pub find_put : (a v : ConId) (w w0 : Held) (windows : Windows) → find a windows ≡ Some w0 → find v (put a w windows) ≡ cond (same a v) (Some w) (find v windows)
find_put a v w w0 [] there = cc
find_put a v w w0 (e ∷ windows) there =
    find_step a v w e windows (is_at (nat_cmp a.0) e.0) refl w0 there (λ x h. find_put a v w x windows h)

-- ---- how many have not answered

count_step : (n : ℕ) (w w0 : Held) (e : ℕ × Held) (windows put_there : Windows) (found : Option Held) (b : Bool) → cond b (Some e.1) found ≡ Some w0
    → (found ≡ Some w0 → count_unanswered n put_there + one_if (is_unanswered n w0) ≡ count_unanswered n windows + one_if (is_unanswered n w))
    → count_unanswered n (cond b ((e.0, w) ∷ windows) (e ∷ put_there)) + one_if (is_unanswered n w0) ≡ count_unanswered n (e ∷ windows) + one_if (is_unanswered n w)
count_step n w w0 e windows put_there found true there rest =
    let same_held : e.1 ≡ w0 = cc in
    let alike : one_if (is_unanswered n e.1) ≡ one_if (is_unanswered n w0) = ap (λ z. one_if (is_unanswered n z)) same_held in
    omega arith
count_step n w w0 e windows put_there found false there rest = let h = rest there in omega arith

pub count_put : (n : ℕ) (a : ConId) (w w0 : Held) (windows : Windows) → find a windows ≡ Some w0
    → count_unanswered n (put a w windows) + one_if (is_unanswered n w0) ≡ count_unanswered n windows + one_if (is_unanswered n w)
count_put n a w w0 [] there = cc
count_put n a w w0 (e ∷ windows) there =
    count_step n w w0 e windows (put a w windows) (find a windows) (is_at (nat_cmp a.0) e.0) there (count_put n a w w0 windows)

one_if_zero : (b : Bool) → one_if b ≡ 0 → b ≡ false
one_if_zero false h = refl
one_if_zero true h = absurd (omega arith)

zero_step : (n : ℕ) (w : Held) (e : ℕ × Held) (found : Option Held) (b : Bool) → cond b (Some e.1) found ≡ Some w → is_unanswered n e.1 ≡ false → (found ≡ Some w → is_unanswered n w ≡ false) → is_unanswered n w ≡ false
zero_step n w e found true there here rest = let same_held : e.1 ≡ w = cc in ap (is_unanswered n) (sym same_held) ∙ here
zero_step n w e found false there here rest = rest there

-- where none are left, each that is looked up has answered
pub none_left : (n : ℕ) (a : ConId) (w : Held) (windows : Windows) → count_unanswered n windows ≡ 0 → find a windows ≡ Some w → is_unanswered n w ≡ false
none_left n a w [] none there = cc
none_left n a w (e ∷ windows) none there =
    zero_step n w e (find a windows) (is_at (nat_cmp a.0) e.0) there (one_if_zero (is_unanswered n e.1) (omega arith)) (none_left n a w windows (omega arith))

later_found : (q : ℕ) (e : ℕ × Held) (windows : Windows) (w : Held) (b : Bool) → is_at (nat_cmp q) e.0 ≡ b → IsStrictlySortedBy nat_cmp (keys_of (e ∷ windows)) → find (record { 0 = q }) windows ≡ Some w
    → cond b (Some e.1) (find (record { 0 = q }) windows) ≡ Some w
later_found q e windows w false at sorted there = there
later_found q e windows w true at sorted there =
    let none = lookup-none (is_at (nat_cmp q)) windows (none_past_head (eq_by_cmp_equiv nat_cmp_total) q e windows (IsDistinct-from_sorted nat_cmp (keys_of (e ∷ windows)) sorted) at) in
    let bad : find (record { 0 = q }) windows ≡ None = none in
    let wrong : None ≡ Some w = sym bad ∙ there in cc

-- where each that is looked up has answered, none are left
pub all_answered : (n : ℕ) (windows : Windows) → IsStrictlySortedBy nat_cmp (keys_of windows) → ((a : ConId) (w : Held) → find a windows ≡ Some w → is_unanswered n w ≡ false) → count_unanswered n windows ≡ 0
all_answered n [] sorted h = refl
all_answered n (e ∷ windows) sorted h =
    let here : is_unanswered n e.1 ≡ false = h (record { 0 = e.0 }) e.1 (rw (test_same e.0 e.0) (grind (arith, nat_tests))) in
    let rest = all_answered n windows (sorted_tail nat_cmp e.0 (keys_of windows) sorted) (λ a w there. h a w (later_found a.0 e windows w (is_at (nat_cmp a.0) e.0) refl sorted there)) in
    let one : one_if (is_unanswered n e.1) ≡ 0 = ap one_if here in
    omega arith

-- ---- one that is inserted

abbrev value_at : {X : Type 0} → ConId → List (ℕ × X) → Option X
value_at v entries = lookup (is_at (nat_cmp v.0)) entries

insert_step : {X : Type 0} (a v : ConId) (w : X) (e : ℕ × X) (windows inserted : List (ℕ × X)) (r : Ordering) → nat_cmp a.0 e.0 ≡ r → value_at v inserted ≡ cond (same a v) (Some w) (value_at v windows)
    → value_at v (match_ordering r ((a.0, w) ∷ e ∷ windows) ((e.0, w) ∷ windows) (e ∷ inserted)) ≡ cond (same a v) (Some w) (value_at v (e ∷ windows))
insert_step a v w e windows inserted Less at rest =
    let t : is_at (nat_cmp v.0) a.0 ≡ same a v = test_same v.0 a.0 ∙ grind (arith, nat_tests) in
    ap (λ b. cond b (Some w) (value_at v (e ∷ windows))) t
insert_step a v w e windows inserted Equal at rest =
    let key : a.0 ≡ e.0 = eqb-true a.0 e.0 (sym (test_same a.0 e.0) ∙ ap is_eq at) in
    let t : is_at (nat_cmp v.0) e.0 ≡ same a v = test_same v.0 e.0 ∙ grind (arith, nat_tests) in
    rw t (both (same a v) w e.1 (value_at v windows))
insert_step a v w e windows inserted Greater at rest =
    ap (cond (is_at (nat_cmp v.0) e.0) (Some e.1)) rest ∙ swap (is_at (nat_cmp v.0) e.0) (same a v) e.1 w (value_at v windows) (apart a v e.0 (ap is_eq at))

pub find_insert : {X : Type 0} (a v : ConId) (w : X) (windows : List (ℕ × X)) → value_at v (insert_entry nat_cmp windows a.0 w) ≡ cond (same a v) (Some w) (value_at v windows)
find_insert a v w [] = let t : is_at (nat_cmp v.0) a.0 ≡ same a v = test_same v.0 a.0 ∙ grind (arith, nat_tests) in ap (λ b. cond b (Some w) None) t
find_insert a v w (e ∷ windows) = insert_step a v w e windows (insert_entry nat_cmp windows a.0 w) (nat_cmp a.0 e.0) refl (find_insert a v w windows)

count_insert_step : (n : ℕ) (a : ConId) (w : Held) (e : ℕ × Held) (windows inserted : Windows) (r : Ordering) → cond (is_eq r) (Some e.1) (find a windows) ≡ None
    → (find a windows ≡ None → count_unanswered n inserted ≡ count_unanswered n windows + one_if (is_unanswered n w))
    → count_unanswered n (match_ordering r ((a.0, w) ∷ e ∷ windows) ((e.0, w) ∷ windows) (e ∷ inserted)) ≡ count_unanswered n (e ∷ windows) + one_if (is_unanswered n w)
count_insert_step n a w e windows inserted Less none rest = omega arith
count_insert_step n a w e windows inserted Equal none rest = cc
count_insert_step n a w e windows inserted Greater none rest = let h = rest none in omega arith

pub count_insert : (n : ℕ) (a : ConId) (w : Held) (windows : Windows) → find a windows ≡ None → count_unanswered n (insert_entry nat_cmp windows a.0 w) ≡ count_unanswered n windows + one_if (is_unanswered n w)
count_insert n a w [] none = omega arith
count_insert n a w (e ∷ windows) none = count_insert_step n a w e windows (insert_entry nat_cmp windows a.0 w) (nat_cmp a.0 e.0) none (count_insert n a w windows)
