-- Entries by rising key: what was put in is found under its key.
use Rattle.std.proofs.Common.{◌≡◌, ℕ, suc, ◌<◌, ◌≤◌, true, false, cond, List, [], ◌∷◌, None, Some, length, refl, ap, ◌∙◌, arith}
use Rattle.std.proofs.lemmas.Bool.Decides.{nat_tests}
use Rattle.std.specs.BTreeMap.{insert_entry, is_at}
use Rattle.std.specs.List.{AllByRecursion}
use Rattle.std.specs.List.Sorted.{IsStrictlySortedBy}
use Rattle.std.specs.Map.{keys_of, lookup, values_of}
use Rattle.std.specs.Ordering.{nat_cmp, match_ordering}
use Rattle.std.specs.declared.cmp.Ordering.{Ordering}
use Rattle.std.specs.declared.cmp.Ordering.TheVariants.{Less, Equal, Greater}

pub at_own : (a : ℕ) → is_at (nat_cmp a) a ≡ true
at_own a = grind (arith, nat_tests)

pub at_above : (x k l : ℕ) → is_at (nat_cmp k) x ≡ true → x < l → is_at (nat_cmp k) l ≡ false
at_above x k l is h = grind (arith, nat_tests)

at_greater : (a b : ℕ) → b < a → is_at (nat_cmp a) b ≡ false
at_greater a b h = grind (arith, nat_tests)

pub less_is : (a b : ℕ) → nat_cmp a b ≡ Less → a < b
less_is a b h = grind (arith, nat_tests)

pub equal_is : (a b : ℕ) → nat_cmp a b ≡ Equal → a ≡ b
equal_is a b h = grind (arith, nat_tests)

pub greater_is : (a b : ℕ) → nat_cmp a b ≡ Greater → b < a
greater_is a b h = grind (arith, nat_tests)

pub cmp_less : (a b : ℕ) → a < b → nat_cmp a b ≡ Less
cmp_less a b h = grind (arith, nat_tests)

-- the keys are all above this one
abbrev pub Above : ℕ → List ℕ → Type 0
Above k ks = AllByRecursion (λ y. nat_cmp k y ≡ Less) ks

pub above_all : (k l : ℕ) (ks : List ℕ) → k < l → Above l ks → Above k ks
above_all k l [] lt h = tt
above_all k l (x ∷ ks) lt h = let next : l < x = less_is l x h.0 in (cmp_less k x (omega arith), above_all k l ks lt h.1)

module _ {V : Type 0} where
  -- ---- order

  above_insert : (k l : ℕ) (v : V) (es : List (ℕ × V)) → k < l → Above k (keys_of es) → Above k (keys_of (insert_entry nat_cmp es l v))
  above_insert k l v [] lt h = (cmp_less k l lt, tt)
  above_insert k l v (e ∷ es) lt h = by_order (nat_cmp l e.0) (above_insert k l v es lt h.1)
    where
      by_order : (r : Ordering) → Above k (keys_of (insert_entry nat_cmp es l v)) → Above k (keys_of (match_ordering r ((l, v) ∷ e ∷ es) ((e.0, v) ∷ es) (e ∷ insert_entry nat_cmp es l v)))
      by_order Less more = (cmp_less k l lt, h)
      by_order Equal more = h
      by_order Greater more = (h.0, more)

  insert_step : (l : ℕ) (v : V) (e : ℕ × V) (es inserted : List (ℕ × V)) (r : Ordering) → nat_cmp l e.0 ≡ r → IsStrictlySortedBy nat_cmp (keys_of (e ∷ es))
      → (e.0 < l → Above e.0 (keys_of inserted)) → IsStrictlySortedBy nat_cmp (keys_of inserted)
      → IsStrictlySortedBy nat_cmp (keys_of (match_ordering r ((l, v) ∷ e ∷ es) ((e.0, v) ∷ es) (e ∷ inserted)))
  unfolding IsStrictlySortedBy
  insert_step l v e es inserted Less at h above rest = ((at, above_all l e.0 (keys_of es) (less_is l e.0 at) h.0), h)
  insert_step l v e es inserted Equal at h above rest = h
  insert_step l v e es inserted Greater at h above rest = (above (greater_is l e.0 at), rest)

  -- an entry that is put in keeps the order
  pub sorted_insert : (l : ℕ) (v : V) (es : List (ℕ × V)) → IsStrictlySortedBy nat_cmp (keys_of es) → IsStrictlySortedBy nat_cmp (keys_of (insert_entry nat_cmp es l v))
  unfolding IsStrictlySortedBy
  sorted_insert l v [] h = (tt, tt)
  sorted_insert l v (e ∷ es) h = insert_step l v e es (insert_entry nat_cmp es l v) (nat_cmp l e.0) refl h (λ lt. above_insert e.0 l v es lt h.0) (sorted_insert l v es h.1)

  -- ---- what is found

  -- each of these entries is what is found under its key
  abbrev pub Found : List (ℕ × V) → List (ℕ × V) → Type 0
  Found m [] = Unit {0}
  Found m (e ∷ es) = (lookup (is_at (nat_cmp e.0)) m ≡ Some e.1) × Found m es

  found_behind : (x : ℕ × V) (m es : List (ℕ × V)) → Above x.0 (keys_of es) → Found m es → Found (x ∷ m) es
  found_behind x m [] above h = tt
  found_behind x m (e ∷ es) above h =
      (ap (λ b. cond b (Some x.1) (lookup (is_at (nat_cmp e.0)) m)) (at_greater e.0 x.0 (less_is x.0 e.0 above.0)) ∙ h.0, found_behind x m es above.1 h.1)

  pub found_all : (es : List (ℕ × V)) → IsStrictlySortedBy nat_cmp (keys_of es) → Found es es
  unfolding IsStrictlySortedBy
  found_all [] h = tt
  found_all (e ∷ es) h = (ap (λ b. cond b (Some e.1) (lookup (is_at (nat_cmp e.0)) es)) (at_own e.0), found_behind e es es h.0 (found_all es h.1))

  -- under a key below all of them nothing is found
  pub above_none : (x k : ℕ) (es : List (ℕ × V)) → Above x (keys_of es) → is_at (nat_cmp k) x ≡ true → lookup (is_at (nat_cmp k)) es ≡ None
  above_none x k [] above is = refl
  above_none x k (e ∷ es) above is =
      ap (λ b. cond b (Some e.1) (lookup (is_at (nat_cmp k)) es)) (at_above x k e.0 is (less_is x e.0 above.0)) ∙ above_none x k es above.1 is

  -- ---- keys

  -- each entry stands under the key of its value
  abbrev pub Keyed : (V → ℕ) → List (ℕ × V) → Type 0
  Keyed key [] = Unit {0}
  Keyed key (e ∷ es) = (e.0 ≡ key e.1) × Keyed key es

  pub keyed_insert : (key : V → ℕ) (v : V) (es : List (ℕ × V)) → Keyed key es → Keyed key (insert_entry nat_cmp es (key v) v)
  keyed_insert key v [] h = (refl, tt)
  keyed_insert key v (e ∷ es) h = by_order (nat_cmp (key v) e.0) refl (keyed_insert key v es h.1)
    where
      by_order : (r : Ordering) → nat_cmp (key v) e.0 ≡ r → Keyed key (insert_entry nat_cmp es (key v) v) → Keyed key (match_ordering r ((key v, v) ∷ e ∷ es) ((e.0, v) ∷ es) (e ∷ insert_entry nat_cmp es (key v) v))
      by_order Less at more = (refl, h)
      by_order Equal at more = (grind (arith, nat_tests), h.1)
      by_order Greater at more = (h.0, more)

  -- ---- how many there are

  pub length_insert : (l : ℕ) (v : V) (es : List (ℕ × V)) → length (values_of (insert_entry nat_cmp es l v)) ≤ suc (length (values_of es))
  length_insert l v [] = omega arith
  length_insert l v (e ∷ es) = by_order (nat_cmp l e.0) (length_insert l v es)
    where
      by_order : (r : Ordering) → length (values_of (insert_entry nat_cmp es l v)) ≤ suc (length (values_of es)) → length (values_of (match_ordering r ((l, v) ∷ e ∷ es) ((e.0, v) ∷ es) (e ∷ insert_entry nat_cmp es l v))) ≤ suc (suc (length (values_of es)))
      by_order Less more = omega arith
      by_order Equal more = omega arith
      by_order Greater more = omega arith
