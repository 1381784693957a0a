-- Marks in front of others: which stand there, and how many different ones there are.
use Rattle.std.proofs.Common.{◌≡◌, ℕ, ◌≤◌, Bool, true, false, ◌||◌, List, [], ◌∷◌, ◌++◌, refl, arith}
use Rattle.std.specs.Str.{bytes_eq}
use Rattle.wm_focus.specs.Marks.{bears}
use Rattle.wm_swallow.specs.Limits.{different}

pub bears-append : (m : List ℕ) (xs ys : List (List ℕ)) → bears m (xs ++ ys) ≡ (bears m xs || bears m ys)
bears-append m [] ys = refl
bears-append m (x ∷ xs) ys = by (bytes_eq x m) (bears-append m xs ys)
  where
    by : (b : Bool) → bears m (xs ++ ys) ≡ (bears m xs || bears m ys) → (b || bears m (xs ++ ys)) ≡ ((b || bears m xs) || bears m ys)
    by true h = refl
    by false h = h

-- marks in front are no fewer
pub different_more : (known : List ℕ → Bool) (xs ys : List (List ℕ)) → different known ys ≤ different known (xs ++ ys)
different_more known [] ys = omega arith
different_more known (x ∷ xs) ys = omega (arith, different_more known xs ys)
