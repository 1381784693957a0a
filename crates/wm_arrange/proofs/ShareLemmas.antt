-- Sums of shares.
use Rattle.std.proofs.Common.{ℕ, ◌≤◌, List, All, length, sum, arith}
use Rattle.std.proofs.lemmas.List.Sums.{sum_by-le}

-- 256 shares make at most 268,435,456
pub few_shares : (xs : List ℕ) → length xs ≤ 256 → All (λ x. x ≤ 1048576) xs → sum xs ≤ 268435456
few_shares xs few small = omega (arith, few, sum_by-le (λ x. x) 1048576 xs small)
