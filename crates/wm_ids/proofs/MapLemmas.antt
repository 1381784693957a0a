-- What a change of a hash map makes of its entries by rising id.
use Rattle.std.proofs.Common.{◌≡◌, ◌<◌, ◌≤◌, ℕ, ◌==◌, nat_eq, Bool, true, false, cond, List, [], ◌∷◌, Option, Some, None, refl, ap, sym, subst, ◌∙◌, arith}
use Rattle.std.proofs.lemmas.Bool.Decides.{nat_tests}
use Rattle.std.specs.BTreeMap.{insert_entry, is_at}
use Rattle.std.specs.HashMap.{HashMap, IsUnchanged, UpdatesBy, get}
use Rattle.std.specs.List.Sorted.{IsStrictlySortedBy}
use Rattle.std.specs.Map.{keys_of, lookup, remove_entry, set_value}
use Rattle.std.specs.Ordering.{nat_cmp}
use Rattle.wm_ids.specs.IdMap.{bound, entries, entries_from}
use Rattle.wm_ids.proofs.EntryLemmas.{alike, changed, found, in_order, longer, value_inserted, value_removed, value_set}

-- an id of 32 bits is below the bound
pub below : (id : ℕ) → id ≤ 4294967295 → id < bound
unfolding bound
below id h = omega (arith, h)

turned : (a b : ℕ) → nat_eq a b ≡ (b == a)
turned a b = grind (arith, nat_tests)

-- ---- an id that has no value

module _ {V : Type 0} where
  unset : (id : ℕ) (v : V) (es : List (ℕ × V)) → lookup (is_at (nat_cmp id)) es ≡ None → set_value (is_at (nat_cmp id)) es v ≡ es
  unset id v [] h = refl
  unset id v (e ∷ es) h = step (is_at (nat_cmp id) e.0) h (unset id v es)
    where
      step : (b : Bool) → cond b (Some e.1) (lookup (is_at (nat_cmp id)) es) ≡ None → (lookup (is_at (nat_cmp id)) es ≡ None → set_value (is_at (nat_cmp id)) es v ≡ es) → cond b ((e.0, v) ∷ es) (e ∷ set_value (is_at (nat_cmp id)) es v) ≡ e ∷ es
      step true h rest = cc
      step false h rest = ap (λ z. e ∷ z) (rest h)

  unremoved : (id : ℕ) (es : List (ℕ × V)) → lookup (is_at (nat_cmp id)) es ≡ None → remove_entry (is_at (nat_cmp id)) es ≡ es
  unremoved id [] h = refl
  unremoved id (e ∷ es) h = step (is_at (nat_cmp id) e.0) h (unremoved id es)
    where
      step : (b : Bool) → cond b (Some e.1) (lookup (is_at (nat_cmp id)) es) ≡ None → (lookup (is_at (nat_cmp id)) es ≡ None → remove_entry (is_at (nat_cmp id)) es ≡ es) → cond b es (e ∷ remove_entry (is_at (nat_cmp id)) es) ≡ e ∷ es
      step true h rest = cc
      step false h rest = ap (λ z. e ∷ z) (rest h)

module _ {V S : Type 0} where
  pub looked_up : (m : HashMap ℕ V S) (id : ℕ) → id < bound → lookup (is_at (nat_cmp id)) (entries m) ≡ get nat_eq m id
  looked_up m id lt = found (get nat_eq m) id id 0 bound (omega arith) (λ past. absurd (omega (arith, past, lt)))

  pub ordered : (m : HashMap ℕ V S) → IsStrictlySortedBy nat_cmp (keys_of (entries m))
  ordered m = in_order (get nat_eq m) 0 bound

  pub seen_ordered : (m : HashMap ℕ V S) (es : List (ℕ × V)) → entries m ≡ es → IsStrictlySortedBy nat_cmp (keys_of es)
  seen_ordered m es seen = subst (λ z. IsStrictlySortedBy nat_cmp (keys_of z)) seen (ordered m)

  -- a map without values has no entries
  pub none_at_all : (m : HashMap ℕ V S) → m.entries ≡ [] → entries m ≡ []
  none_at_all m empty = longer (get nat_eq m) 0 0 bound (omega arith) (λ j le. ap (lookup (nat_eq j)) empty)

  -- the entries after one id has another value, or none
  put : (m n : HashMap ℕ V S) (id : ℕ) (o : Option V) → UpdatesBy nat_eq (nat_eq id) m n o → entries n ≡ entries_from (changed (get nat_eq m) id o) 0 bound
  put m n id o u = alike (get nat_eq n) (changed (get nat_eq m) id o) 0 bound (λ j le. u.0 j ∙ ap (λ b. cond b o (get nat_eq m j)) (turned id j))

  pub inserted : (m n : HashMap ℕ V S) (id : ℕ) (v : V) → id < bound → UpdatesBy nat_eq (nat_eq id) m n (Some v) → entries n ≡ insert_entry nat_cmp (entries m) id v
  inserted m n id v lt u = put m n id (Some v) u ∙ sym (value_inserted (get nat_eq m) id id 0 bound v (omega arith) (omega (arith, lt)))

  pub unchanged : (m n : HashMap ℕ V S) → IsUnchanged m n → entries n ≡ entries m
  unchanged m n same = alike (get nat_eq n) (get nat_eq m) 0 bound (λ j le. ap (lookup (nat_eq j)) same)

  pub set_absent : (m : HashMap ℕ V S) (id : ℕ) (v : V) → id < bound → get nat_eq m id ≡ None → entries m ≡ set_value (is_at (nat_cmp id)) (entries m) v
  set_absent m id v lt none = sym (unset id v (entries m) (looked_up m id lt ∙ none))

  pub removed_absent : (m : HashMap ℕ V S) (id : ℕ) → id < bound → get nat_eq m id ≡ None → entries m ≡ remove_entry (is_at (nat_cmp id)) (entries m)
  removed_absent m id lt none = sym (unremoved id (entries m) (looked_up m id lt ∙ none))

  -- ---- an id that has one

  pub set_there : (m n : HashMap ℕ V S) (id : ℕ) (w v : V) → get nat_eq m id ≡ Some w → UpdatesBy nat_eq (nat_eq id) m n (Some v) → entries n ≡ set_value (is_at (nat_cmp id)) (entries m) v
  set_there m n id w v had u = put m n id (Some v) u ∙ sym (value_set (get nat_eq m) id id 0 bound w v (omega arith) had)

  pub removed : (m n : HashMap ℕ V S) (id : ℕ) → id < bound → UpdatesBy nat_eq (nat_eq id) m n None → entries n ≡ remove_entry (is_at (nat_cmp id)) (entries m)
  removed m n id lt u = by (get nat_eq m id) refl
    where
      by : (o : Option V) → get nat_eq m id ≡ o → entries n ≡ remove_entry (is_at (nat_cmp id)) (entries m)
      by (Some w) had = put m n id None u ∙ sym (value_removed (get nat_eq m) id id 0 bound w (omega arith) had)
      by None none = alike (get nat_eq n) (get nat_eq m) 0 bound (λ j le. u.0 j ∙ same_at j (nat_eq id j) refl) ∙ removed_absent m id lt none
        where
          same_at : (j : ℕ) (b : Bool) → nat_eq id j ≡ b → cond b None (get nat_eq m j) ≡ get nat_eq m j
          same_at j true e = sym (ap (get nat_eq m) (equal id j e) ∙ none)
            where
              equal : (a c : ℕ) → nat_eq a c ≡ true → c ≡ a
              equal a c h = grind (arith, nat_tests)
          same_at j false e = refl
