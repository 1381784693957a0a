-- The rows that a map by id has, after one more and what is below and behind it.
use Rattle.std.proofs.Common.{◌≡◌, Bool, true, false, cond, Option, Some, None, refl}
use Rattle.std.specs.Option.{option_or}

-- what is kept, or else the row itself, or one below it or behind it, is the first of all
pub row_step : {X : Type 0} (s : Bool) (x : X) (old kids floats rest : Option X) → option_or (option_or (option_or (option_or old (cond s (Some x) None)) kids) floats) rest ≡ option_or old (cond s (Some x) (option_or kids (option_or floats rest)))
row_step s x (Some o) kids floats rest = refl
row_step true x None kids floats rest = refl
row_step false x None (Some k) floats rest = refl
row_step false x None None floats rest = refl
