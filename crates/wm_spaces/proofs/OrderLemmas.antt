-- The numbers of names, and the first or last of workspaces.
use Rattle.std.proofs.Common.{◌≡◌, ℕ, ◌+◌, ◌-◌, ◌*◌, ◌<◌, ◌≤◌, Bool, true, false, cond, leb, List, [], ◌∷◌, Option, None, Some, refl, ap, sym, ◌∙◌, arith}
use Rattle.std.proofs.lemmas.Bool.Decides.{nat_tests}
use Rattle.wm_shared.specs.declared.keys.Key.{Key}
use Rattle.wm_shared.proofs.KeyLemmas.{lesser_assoc}
use Rattle.wm_shared.specs.Keys.{comes_before, with_key}
use Rattle.wm_spaces.specs.declared.order.Pick.{Pick}
use Rattle.wm_spaces.specs.Order.{best_on, best_with, better, greater, is_digit, key_if, keys_in, number_on, small}
use Rattle.wm_forest.specs.Forest.{Forest, end, con}
use Rattle.wm_forest.specs.Look.{space_kind}

-- more digits make no smaller number
grows : (n : ℕ) (bs : List ℕ) → n ≤ number_on n bs
grows n [] = omega arith
grows n (b ∷ bs) = by_test (is_digit b) (grows (n * 10 + (b - 48)) bs)
  where
    by_test : (d : Bool) → n * 10 + (b - 48) ≤ number_on (n * 10 + (b - 48)) bs → n ≤ cond d (number_on (n * 10 + (b - 48)) bs) n
    by_test true h = omega (arith, h)
    by_test false h = omega arith

pub too_large : (n : ℕ) (bs : List ℕ) → 2147483647 < n → small (number_on n bs) ≡ None
too_large n bs h = by_test (leb (number_on n bs) 2147483647) refl
  where
    by_test : (b : Bool) → leb (number_on n bs) 2147483647 ≡ b → cond b (Some (number_on n bs)) None ≡ None
    by_test true e = let few : number_on n bs ≤ 2147483647 = grind (arith, nat_tests) in absurd (omega (arith, few, grows n bs, h))
    by_test false e = refl

-- ---- of three, the one that comes last is found in any way

before_trans : (a b c : Key) → comes_before a b ≡ true → comes_before b c ≡ true → comes_before a c ≡ true
before_trans a b c h k = grind (arith, nat_tests)

before_not : (a b c : Key) → comes_before a b ≡ false → comes_before b c ≡ false → comes_before a c ≡ false
before_not a b c h k = grind (arith, nat_tests)

greater_assoc : (x y z : Option Key) → greater (greater x y) z ≡ greater x (greater y z)
greater_assoc None y z = refl
greater_assoc (Some a) None z = refl
greater_assoc (Some a) (Some b) None = by_test (comes_before a b)
  where
    by_test : (p : Bool) → greater (cond p (Some b) (Some a)) None ≡ cond p (Some b) (Some a)
    by_test true = refl
    by_test false = refl
greater_assoc (Some a) (Some b) (Some c) = by_tests (comes_before a b) (comes_before b c) refl refl
  where
    by_tests : (p q : Bool) → comes_before a b ≡ p → comes_before b c ≡ q → greater (cond p (Some b) (Some a)) (Some c) ≡ greater (Some a) (cond q (Some c) (Some b))
    by_tests true true p q = rw (q, before_trans a b c p q) refl
    by_tests true false p q = rw (q, p) refl
    by_tests false true p q = refl
    by_tests false false p q = rw (p, before_not a b c p q) refl

better_assoc : (back : Bool) (x y z : Option Key) → better back (better back x y) z ≡ better back x (better back y z)
better_assoc true x y z = greater_assoc x y z
better_assoc false x y z = lesser_assoc x y z

none_better : (back : Bool) (k : Option Key) → better back None k ≡ k
none_better true k = refl
none_better false k = refl

better_none : (back : Bool) (k : Option Key) → better back k None ≡ k
better_none true None = refl
better_none true (Some k) = refl
better_none false None = refl
better_none false (Some k) = refl

-- ---- a row from its first node on, with the best of those ahead of it

pub best_step : (back : Bool) (k o : Option Key) (ks : List Key) → better back k (best_with back ks o) ≡ best_with back (with_key k ks) o
best_step true None o ks = refl
best_step false None o ks = refl
best_step back (Some k) o ks = refl

abbrev pub best_from : Bool → Pick → Option Key → Forest → Option Key
best_from back p k end = k
best_from back p k (con part kids floats rest) = best_from back p (better back k (key_if p part.id (space_kind part.kind))) rest

from_is : (back : Bool) (p : Pick) (k : Option Key) (row : Forest) → best_from back p k row ≡ better back k (best_with back (keys_in p row) None)
from_is back p k end = sym (better_none back k)
from_is back p k (con part kids floats rest) =
    let own = key_if p part.id (space_kind part.kind) in
    from_is back p (better back k own) rest
    ∙ (better_assoc back k own (best_with back (keys_in p rest) None) ∙ ap (better back k) (best_step back own None (keys_in p rest)))

-- the best of a row of workspaces
pub best_of : (back : Bool) (p : Pick) (row : Forest) → best_from back p None row ≡ best_with back (keys_in p row) None
best_of back p row = from_is back p None row ∙ none_better back (best_with back (keys_in p row) None)

-- the best of some, and then another one
best_split : (back : Bool) (ks : List Key) (o : Option Key) → better back (best_with back ks None) o ≡ best_with back ks o
best_split back [] o = none_better back o
best_split back (k ∷ ks) o = better_assoc back (Some k) (best_with back ks None) o ∙ ap (better back (Some k)) (best_split back ks o)

abbrev pub best_over : Bool → Pick → Option Key → Forest → Option Key
best_over back p k end = k
best_over back p k (con part kids floats rest) = best_over back p (better back k (best_with back (keys_in p kids) None)) rest

over_is : (back : Bool) (p : Pick) (k : Option Key) (row : Forest) → best_over back p k row ≡ better back k (best_on back p row)
over_is back p k end = sym (better_none back k)
over_is back p k (con part kids floats rest) =
    let own = best_with back (keys_in p kids) None in
    over_is back p (better back k own) rest
    ∙ (better_assoc back k own (best_on back p rest) ∙ ap (better back k) (best_split back (keys_in p kids) (best_on back p rest)))

-- the best of the workspaces on a row of outputs
pub best_of_all : (back : Bool) (p : Pick) (row : Forest) → best_over back p None row ≡ best_on back p row
best_of_all back p row = over_is back p None row ∙ none_better back (best_on back p row)
