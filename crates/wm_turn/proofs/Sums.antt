-- Sums over a list of which one place changes.
use Rattle.std.proofs.Common.{◌≡◌, ◌≢◌, ℕ, zero, suc, ◌+◌, ◌≤◌, List, [], ◌∷◌, set, refl, ap, sym, arith}
use Rattle.std.specs.List.{sum_by}
use Rattle.std.proofs.lemmas.List.Sums.{sum_by-cons}
use mathlib.Core.Option.{some, some-injective, some-ne-none}
use lib.ListN.{get_elem?}

module _ {A : Type 0} where
  pub sum_set : (f : A → ℕ) (xs : List A) (i : ℕ) (v w : A) → get_elem? xs i ≡ some v → sum_by f (set xs i w) + f v ≡ sum_by f xs + f w
  sum_set f [] i v w at = absurd (some-ne-none v (sym at))
  sum_set f (x ∷ xs) zero v w at =
      let same : f x ≡ f v = ap f (some-injective x v at) in
      omega (arith, same, sum_by-cons f w xs, sum_by-cons f x xs)
  sum_set f (x ∷ xs) (suc i) v w at = omega (arith, sum_set f xs i v w at, sum_by-cons f x (set xs i w), sum_by-cons f x xs)

  -- where g is nowhere less than f, and more by k at one place, so is its sum
  pub sum_more : (f g : A → ℕ) (k : ℕ) (xs : List A) (i : ℕ) (v : A) → ((j : ℕ) (u : A) → get_elem? xs j ≡ some u → f u ≤ g u) → get_elem? xs i ≡ some v → f v + k ≤ g v → sum_by f xs + k ≤ sum_by g xs
  sum_more f g k [] i v le at more = absurd (some-ne-none v (sym at))
  sum_more f g k (x ∷ xs) zero v le at more =
      let f_same : f x ≡ f v = ap f (some-injective x v at) in
      let g_same : g x ≡ g v = ap g (some-injective x v at) in
      omega (arith, f_same, g_same, sum_by-cons f x xs, sum_by-cons g x xs, sum_le f g xs (λ j u there. le (suc j) u there))
    where
      sum_le : (f g : A → ℕ) (xs : List A) → ((j : ℕ) (u : A) → get_elem? xs j ≡ some u → f u ≤ g u) → sum_by f xs ≤ sum_by g xs
      sum_le f g [] le = omega arith
      sum_le f g (x ∷ xs) le =
          omega (arith, sum_by-cons f x xs, sum_by-cons g x xs, le 0 x refl, sum_le f g xs (λ j u there. le (suc j) u there))
  sum_more f g k (x ∷ xs) (suc i) v le at more =
      omega (arith, sum_by-cons f x xs, sum_by-cons g x xs, le 0 x refl, sum_more f g k xs i v (λ j u there. le (suc j) u there) at more)

  pub one_at : (f : A → ℕ) (xs : List A) (i : ℕ) (v : A) → get_elem? xs i ≡ some v → f v ≤ sum_by f xs
  one_at f [] i v at = absurd (some-ne-none v (sym at))
  one_at f (x ∷ xs) zero v at =
      let same : f x ≡ f v = ap f (some-injective x v at) in omega (arith, same, sum_by-cons f x xs)
  one_at f (x ∷ xs) (suc i) v at = omega (arith, sum_by-cons f x xs, one_at f xs i v at)

  pub two_at : (f : A → ℕ) (xs : List A) (i j : ℕ) (v u : A) → j ≢ i → get_elem? xs i ≡ some v → get_elem? xs j ≡ some u → f v + f u ≤ sum_by f xs
  two_at f [] i j v u apart at there = absurd (some-ne-none v (sym at))
  two_at f (x ∷ xs) zero zero v u apart at there = absurd (apart refl)
  two_at f (x ∷ xs) zero (suc j) v u apart at there =
      let same : f x ≡ f v = ap f (some-injective x v at) in omega (arith, same, sum_by-cons f x xs, one_at f xs j u there)
  two_at f (x ∷ xs) (suc i) zero v u apart at there =
      let same : f x ≡ f u = ap f (some-injective x u there) in omega (arith, same, sum_by-cons f x xs, one_at f xs i v at)
  two_at f (x ∷ xs) (suc i) (suc j) v u apart at there =
      omega (arith, sum_by-cons f x xs, two_at f xs i j v u (λ same. apart (ap suc same)) at there)
