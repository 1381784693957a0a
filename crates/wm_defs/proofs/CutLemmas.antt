-- Lemmas on the cut of a length by shares.
use Rattle.std.proofs.Common.{◌≡◌, ℕ, zero, suc, ◌+◌, ◌-◌, ◌/◌, ◌≤◌, List, sum, take, length, inl, inr, arith}
use Rattle.std.proofs.Math.Nat.{div-zero, div-mul-le_self, mul-le-mul_left}
use Rattle.std.proofs.lemmas.Nat.{le-div}
use Rattle.std.proofs.lemmas.Bool.{cases_lt}
use Rattle.std.proofs.lemmas.List.{take_more, take_all}
use Rattle.std.proofs.lemmas.List.Sums.{sum_by_push}
use Rattle.wm_defs.specs.Cut.{cut_at}

-- a quotient rises with what is divided
pub div_rises : (a b s : ℕ) → a ≤ b → a / s ≤ b / s
div_rises a b zero h = omega (arith, div-zero a, div-zero b)
div_rises a b (suc s) h = le-div (a / suc s) b (suc s) (omega arith) (omega (arith, div-mul-le_self a (suc s)))

from_to : (a b : ℕ) → a ≤ b → a + (b - a) ≡ b
from_to a b h = omega arith

-- the shares before a later child make no less
pub sum-take-rises : (xs : List ℕ) (i : ℕ) → sum (take i xs) ≤ sum (take (i + 1) xs)
sum-take-rises xs i =
    elim (cases_lt i (length xs)) [
      | inl within ↦ rw (take_more xs i 0 within, sum_by_push (λ x. x)) (omega arith)
      | inr past ↦ rw (take_all i xs past, take_all (i + 1) xs (omega arith)) (omega arith)
    ]

pub cut_at-rises : (width i : ℕ) (shares : List ℕ) → cut_at width shares i ≤ cut_at width shares (i + 1)
cut_at-rises width i shares = div_rises _ _ (sum shares) (mul-le-mul_left width (sum-take-rises shares i))

-- each child ends where the next one begins
pub cut-joins : (width i : ℕ) (shares : List ℕ) → cut_at width shares i + (cut_at width shares (i + 1) - cut_at width shares i) ≡ cut_at width shares (i + 1)
cut-joins width i shares = from_to _ _ (cut_at-rises width i shares)
