-- Lemmas on the fields of a line.
use Rattle.std.proofs.Common.{ℕ, ◌≤◌, ◌+◌, ◌*◌, ◌-◌, List, [], ◌∷◌, arith}
use Rattle.wm_fields.specs.Fields.{decimal_value}

-- more digits make a value no smaller
pub decimal_rises : (value : ℕ) (digits : List ℕ) → value ≤ decimal_value value digits
decimal_rises value [] = omega arith
decimal_rises value (digit ∷ digits) = omega (arith, decimal_rises (value * 10 + (digit - 48)) digits)
