-- The entries of ids from a first one on: one that is looked up, given another value, inserted or taken away.
use Rattle.std.proofs.Common.{◌≡◌, ◌<◌, ◌≤◌, ℕ, zero, suc, ◌+◌, ◌==◌, true, false, cond, eqb, List, ◌∷◌, Option, Some, None, refl, ap, sym, subst, ◌∙◌, arith}
use Rattle.std.proofs.lemmas.Bool.Decides.{nat_tests}
use Rattle.std.proofs.lemmas.Cmp.{nat_cmp_total}
use Rattle.std.proofs.lemmas.Map.{lookup-remove_entry}
use Rattle.std.proofs.lemmas.Map.Keys.{IsDistinct-from_sorted}
use Rattle.std.specs.BTreeMap.{insert_entry, is_at}
use Rattle.std.specs.Cmp.{eq_by_cmp_equiv}
use Rattle.std.specs.List.{AllByRecursion}
use Rattle.std.specs.List.Sorted.{IsStrictlySortedBy}
use Rattle.std.specs.Map.{keys_of, lookup, remove_entry, set_value}
use Rattle.std.specs.Ordering.{nat_cmp, match_ordering}
use Rattle.std.specs.declared.cmp.Ordering.TheVariants.{Less, Equal, Greater}
use Rattle.wm_ids.specs.IdMap.{entries_from, with_value}

pub test_same : (a b : ℕ) → is_at (nat_cmp a) b ≡ eqb a b
test_same a b = grind (arith, nat_tests)

at_own : (a : ℕ) → is_at (nat_cmp a) a ≡ true
at_own a = grind (arith, nat_tests)

at_less : (a b : ℕ) → a < b → is_at (nat_cmp a) b ≡ false
at_less a b h = grind (arith, nat_tests)

at_greater : (a b : ℕ) → b < a → is_at (nat_cmp a) b ≡ false
at_greater a b h = grind (arith, nat_tests)

cmp_less : (a b : ℕ) → a < b → nat_cmp a b ≡ Less
cmp_less a b h = grind (arith, nat_tests)

cmp_equal : (a : ℕ) → nat_cmp a a ≡ Equal
cmp_equal a = grind (arith, nat_tests)

cmp_greater : (a b : ℕ) → b < a → nat_cmp a b ≡ Greater
cmp_greater a b h = grind (arith, nat_tests)

module _ {V : Type 0} where
  -- the same values have the same entries
  pub alike : (f g : ℕ → Option V) (i n : ℕ) → ((j : ℕ) → i ≤ j → f j ≡ g j) → entries_from f i n ≡ entries_from g i n
  alike f g i zero h = refl
  alike f g i (suc n) h =
      let rest : entries_from f (suc i) n ≡ entries_from g (suc i) n = alike f g (suc i) n (λ j le. h j (omega arith)) in
      let first : f i ≡ g i = h i (omega arith) in
      ap (λ z. with_value i z (entries_from f (suc i) n)) first ∙ ap (with_value i (g i)) rest

  -- ids without values add no entries
  pub longer : (f : ℕ → Option V) (i n m : ℕ) → n ≤ m → ((j : ℕ) → i + n ≤ j → f j ≡ None) → entries_from f i m ≡ entries_from f i n
  longer f i zero zero le h = refl
  longer f i zero (suc m) le h =
      let none : f i ≡ None = h i (omega arith) in
      ap (λ z. with_value i z (entries_from f (suc i) m)) none ∙ longer f (suc i) zero m (omega arith) (λ j past. h j (omega arith))
  longer f i (suc n) zero le h = absurd (omega arith)
  longer f i (suc n) (suc m) le h = ap (with_value i (f i)) (longer f (suc i) n m (omega arith) (λ j past. h j (omega arith)))

  -- ---- one that is looked up

  before_step : (j i : ℕ) (o : Option V) (rest : List (ℕ × V)) → j < i → lookup (is_at (nat_cmp j)) rest ≡ None → lookup (is_at (nat_cmp j)) (with_value i o rest) ≡ None
  before_step j i None rest lt h = h
  before_step j i (Some v) rest lt h = ap (λ b. cond b (Some v) (lookup (is_at (nat_cmp j)) rest)) (at_less j i lt) ∙ h

  before : (f : ℕ → Option V) (j i n : ℕ) → j < i → lookup (is_at (nat_cmp j)) (entries_from f i n) ≡ None
  before f j i zero lt = refl
  before f j i (suc n) lt = before_step j i (f i) (entries_from f (suc i) n) lt (before f j (suc i) n (omega arith))

  first_step : (i : ℕ) (o : Option V) (rest : List (ℕ × V)) → lookup (is_at (nat_cmp i)) rest ≡ None → lookup (is_at (nat_cmp i)) (with_value i o rest) ≡ o
  first_step i None rest h = h
  first_step i (Some v) rest h = ap (λ b. cond b (Some v) (lookup (is_at (nat_cmp i)) rest)) (at_own i)

  later_step : (j i : ℕ) (o : Option V) (rest : List (ℕ × V)) → i < j → lookup (is_at (nat_cmp j)) (with_value i o rest) ≡ lookup (is_at (nat_cmp j)) rest
  later_step j i None rest lt = refl
  later_step j i (Some v) rest lt = ap (λ b. cond b (Some v) (lookup (is_at (nat_cmp j)) rest)) (at_greater j i lt)

  -- an id is found where it is one of these ids or has no value
  pub found : (f : ℕ → Option V) (j d i n : ℕ) → j ≡ i + d → (i + n ≤ j → f j ≡ None) → lookup (is_at (nat_cmp j)) (entries_from f i n) ≡ f j
  found f j d i zero at past = sym (past (omega arith))
  found f j zero i (suc n) at past =
      let here : i ≡ j = omega arith in
      subst (λ z. lookup (is_at (nat_cmp z)) (entries_from f i (suc n)) ≡ f z) here (first_step i (f i) (entries_from f (suc i) n) (before f i (suc i) n (omega arith)))
  found f j (suc d) i (suc n) at past =
      later_step j i (f i) (entries_from f (suc i) n) (omega arith) ∙ found f j d (suc i) n (omega arith) (λ le. past (omega arith))

  -- ---- one whose value changes

  -- the values with another one at this id
  abbrev pub changed : (ℕ → Option V) → ℕ → Option V → ℕ → Option V
  changed f j o k = cond (k == j) o (f k)

  changed_here : (f : ℕ → Option V) (j : ℕ) (o : Option V) → changed f j o j ≡ o
  changed_here f j o = ap (λ b. cond b o (f j)) (own j)
    where
      own : (n : ℕ) → (n == n) ≡ true
      own n = grind (arith, nat_tests)

  changed_there : (f : ℕ → Option V) (j : ℕ) (o : Option V) (k : ℕ) → j < k → f k ≡ changed f j o k
  changed_there f j o k lt = ap (λ b. cond b o (f k)) (other k j lt)
    where
      other : (m n : ℕ) → n < m → false ≡ (m == n)
      other m n h = grind (arith, nat_tests)

  changed_below : (f : ℕ → Option V) (j : ℕ) (o : Option V) (k : ℕ) → k < j → f k ≡ changed f j o k
  changed_below f j o k lt = ap (λ b. cond b o (f k)) (other k j lt)
    where
      other : (m n : ℕ) → m < n → false ≡ (m == n)
      other m n h = grind (arith, nat_tests)

  -- the entries past the id keep
  rest_keeps : (f : ℕ → Option V) (j : ℕ) (o : Option V) (i n : ℕ) → j < i → entries_from f i n ≡ entries_from (changed f j o) i n
  rest_keeps f j o i n lt = alike f (changed f j o) i n (λ k le. changed_there f j o k (omega arith))

  -- what starts with the id, where it has a value then
  here : (f : ℕ → Option V) (i n : ℕ) (o o2 : Option V) → o2 ≡ o → with_value i o (entries_from f (suc i) n) ≡ with_value i (changed f i o2 i) (entries_from (changed f i o2) (suc i) n)
  here f i n o o2 e =
      ap (with_value i o) (rest_keeps f i o2 (suc i) n (omega arith))
      ∙ ap (λ z. with_value i z (entries_from (changed f i o2) (suc i) n)) (sym e ∙ sym (changed_here f i o2))

  set_first : (i : ℕ) (o : Option V) (w v : V) (rest : List (ℕ × V)) → o ≡ Some w → set_value (is_at (nat_cmp i)) (with_value i o rest) v ≡ with_value i (Some v) rest
  set_first i None w v rest h = cc
  set_first i (Some x) w v rest h = ap (λ b. cond b ((i, v) ∷ rest) ((i, x) ∷ set_value (is_at (nat_cmp i)) rest v)) (at_own i)

  set_later : (j i : ℕ) (o : Option V) (v : V) (rest : List (ℕ × V)) → i < j → set_value (is_at (nat_cmp j)) (with_value i o rest) v ≡ with_value i o (set_value (is_at (nat_cmp j)) rest v)
  set_later j i None v rest lt = refl
  set_later j i (Some x) v rest lt = ap (λ b. cond b ((i, v) ∷ rest) ((i, x) ∷ set_value (is_at (nat_cmp j)) rest v)) (at_greater j i lt)

  pub value_set : (f : ℕ → Option V) (j d i n : ℕ) (w v : V) → j ≡ i + d → f j ≡ Some w → set_value (is_at (nat_cmp j)) (entries_from f i n) v ≡ entries_from (changed f j (Some v)) i n
  value_set f j d i zero w v at h = refl
  value_set f j zero i (suc n) w v at h =
      let same_id : i ≡ j = omega arith in
      subst (λ z. f z ≡ Some w → set_value (is_at (nat_cmp z)) (entries_from f i (suc n)) v ≡ entries_from (changed f z (Some v)) i (suc n)) same_id
      (λ e. set_first i (f i) w v (entries_from f (suc i) n) e ∙ here f i n (Some v) (Some v) refl) h
  value_set f j (suc d) i (suc n) w v at h =
      set_later j i (f i) v (entries_from f (suc i) n) (omega arith)
      ∙ ap (with_value i (f i)) (value_set f j d (suc i) n w v (omega arith) h)
      ∙ ap (λ z. with_value i z (entries_from (changed f j (Some v)) (suc i) n)) (changed_below f j (Some v) i (omega arith))

  remove_first : (i : ℕ) (o : Option V) (w : V) (rest : List (ℕ × V)) → o ≡ Some w → remove_entry (is_at (nat_cmp i)) (with_value i o rest) ≡ rest
  remove_first i None w rest h = cc
  remove_first i (Some x) w rest h = ap (λ b. cond b rest ((i, x) ∷ remove_entry (is_at (nat_cmp i)) rest)) (at_own i)

  remove_later : (j i : ℕ) (o : Option V) (rest : List (ℕ × V)) → i < j → remove_entry (is_at (nat_cmp j)) (with_value i o rest) ≡ with_value i o (remove_entry (is_at (nat_cmp j)) rest)
  remove_later j i None rest lt = refl
  remove_later j i (Some x) rest lt = ap (λ b. cond b rest ((i, x) ∷ remove_entry (is_at (nat_cmp j)) rest)) (at_greater j i lt)

  pub value_removed : (f : ℕ → Option V) (j d i n : ℕ) (w : V) → j ≡ i + d → f j ≡ Some w → remove_entry (is_at (nat_cmp j)) (entries_from f i n) ≡ entries_from (changed f j None) i n
  value_removed f j d i zero w at h = refl
  value_removed f j zero i (suc n) w at h =
      let same_id : i ≡ j = omega arith in
      subst (λ z. f z ≡ Some w → remove_entry (is_at (nat_cmp z)) (entries_from f i (suc n)) ≡ entries_from (changed f z None) i (suc n)) same_id
      (λ e. remove_first i (f i) w (entries_from f (suc i) n) e ∙ here f i n None None refl) h
  value_removed f j (suc d) i (suc n) w at h =
      remove_later j i (f i) (entries_from f (suc i) n) (omega arith)
      ∙ ap (with_value i (f i)) (value_removed f j d (suc i) n w (omega arith) h)
      ∙ ap (λ z. with_value i z (entries_from (changed f j None) (suc i) n)) (changed_below f j None i (omega arith))

  insert_less : (j i : ℕ) (o : Option V) (v : V) (rest : List (ℕ × V)) → j < i → insert_entry nat_cmp rest j v ≡ (j, v) ∷ rest → insert_entry nat_cmp (with_value i o rest) j v ≡ (j, v) ∷ with_value i o rest
  insert_less j i None v rest lt h = h
  insert_less j i (Some x) v rest lt h =
      ap (λ r. match_ordering r ((j, v) ∷ (i, x) ∷ rest) ((i, v) ∷ rest) ((i, x) ∷ insert_entry nat_cmp rest j v)) (cmp_less j i lt)

  insert_before : (f : ℕ → Option V) (j i n : ℕ) (v : V) → j < i → insert_entry nat_cmp (entries_from f i n) j v ≡ (j, v) ∷ entries_from f i n
  insert_before f j i zero v lt = refl
  insert_before f j i (suc n) v lt = insert_less j i (f i) v (entries_from f (suc i) n) lt (insert_before f j (suc i) n v (omega arith))

  insert_first : (i : ℕ) (o : Option V) (v : V) (rest : List (ℕ × V)) → insert_entry nat_cmp rest i v ≡ (i, v) ∷ rest → insert_entry nat_cmp (with_value i o rest) i v ≡ with_value i (Some v) rest
  insert_first i None v rest h = h
  insert_first i (Some x) v rest h =
      ap (λ r. match_ordering r ((i, v) ∷ (i, x) ∷ rest) ((i, v) ∷ rest) ((i, x) ∷ insert_entry nat_cmp rest i v)) (cmp_equal i)

  insert_later : (j i : ℕ) (o : Option V) (v : V) (rest : List (ℕ × V)) → i < j → insert_entry nat_cmp (with_value i o rest) j v ≡ with_value i o (insert_entry nat_cmp rest j v)
  insert_later j i None v rest lt = refl
  insert_later j i (Some x) v rest lt =
      ap (λ r. match_ordering r ((j, v) ∷ (i, x) ∷ rest) ((i, v) ∷ rest) ((i, x) ∷ insert_entry nat_cmp rest j v)) (cmp_greater j i lt)

  pub value_inserted : (f : ℕ → Option V) (j d i n : ℕ) (v : V) → j ≡ i + d → j < i + n → insert_entry nat_cmp (entries_from f i n) j v ≡ entries_from (changed f j (Some v)) i n
  value_inserted f j d i zero v at below = absurd (omega arith)
  value_inserted f j zero i (suc n) v at below =
      let same_id : i ≡ j = omega arith in
      subst (λ z. insert_entry nat_cmp (entries_from f i (suc n)) z v ≡ entries_from (changed f z (Some v)) i (suc n)) same_id
      (insert_first i (f i) v (entries_from f (suc i) n) (insert_before f i (suc i) n v (omega arith)) ∙ here f i n (Some v) (Some v) refl)
  value_inserted f j (suc d) i (suc n) v at below =
      insert_later j i (f i) v (entries_from f (suc i) n) (omega arith)
      ∙ ap (with_value i (f i)) (value_inserted f j d (suc i) n v (omega arith) (omega arith))
      ∙ ap (λ z. with_value i z (entries_from (changed f j (Some v)) (suc i) n)) (changed_below f j (Some v) i (omega arith))

  -- ---- the order

  above_step : (k i : ℕ) (o : Option V) (rest : List (ℕ × V)) → k < i → AllByRecursion (λ y. nat_cmp k y ≡ Less) (keys_of rest) → AllByRecursion (λ y. nat_cmp k y ≡ Less) (keys_of (with_value i o rest))
  above_step k i None rest lt h = h
  above_step k i (Some v) rest lt h = (cmp_less k i lt, h)

  above : (f : ℕ → Option V) (k i n : ℕ) → k < i → AllByRecursion (λ y. nat_cmp k y ≡ Less) (keys_of (entries_from f i n))
  above f k i zero lt = tt
  above f k i (suc n) lt = above_step k i (f i) (entries_from f (suc i) n) lt (above f k (suc i) n (omega arith))

  order_step : (i : ℕ) (o : Option V) (rest : List (ℕ × V)) → AllByRecursion (λ y. nat_cmp i y ≡ Less) (keys_of rest) → IsStrictlySortedBy nat_cmp (keys_of rest) → IsStrictlySortedBy nat_cmp (keys_of (with_value i o rest))
  unfolding IsStrictlySortedBy
  order_step i None rest a s = s
  order_step i (Some v) rest a s = (a, s)

  -- the ids rise
  pub in_order : (f : ℕ → Option V) (i n : ℕ) → IsStrictlySortedBy nat_cmp (keys_of (entries_from f i n))
  unfolding IsStrictlySortedBy
  in_order f i zero = tt
  in_order f i (suc n) = order_step i (f i) (entries_from f (suc i) n) (above f i (suc i) n (omega arith)) (in_order f (suc i) n)

  -- after the entry of an id was taken away
  pub found_without : (id q : ℕ) (es : List (ℕ × V)) → IsStrictlySortedBy nat_cmp (keys_of es) → lookup (is_at (nat_cmp q)) (remove_entry (is_at (nat_cmp id)) es) ≡ cond (is_at (nat_cmp id) q) None (lookup (is_at (nat_cmp q)) es)
  found_without id q es sorted = lookup-remove_entry (eq_by_cmp_equiv nat_cmp_total) (is_at (nat_cmp id)) same_test q es (IsDistinct-from_sorted nat_cmp (keys_of es) sorted)
    where
      same_test : (x y : ℕ) → is_at (nat_cmp id) x ≡ true → is_at (nat_cmp id) y ≡ is_at (nat_cmp x) y
      same_test x y h = grind (arith, nat_tests)
