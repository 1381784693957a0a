-- Appending rows.
use Rattle.std.proofs.Common.{◌≡◌, refl, ap}
use Rattle.wm_forest.specs.Forest.{Forest, end, con}
use Rattle.wm_forest.specs.Change.{append}
use Rattle.wm_forest.specs.Passing.{onto}

-- two rows before a third are their row before it
pub append_both : (a b c : Forest) → append (append a b) c ≡ append a (append b c)
append_both end b c = refl
append_both (con part kids floats rest) b c = ap (λ z. con part kids floats z) (append_both rest b c)

-- a row taken apart and put together before another
pub onto_both : (a b c : Forest) → onto (onto a b) c ≡ onto b (append a c)
onto_both end b c = refl
onto_both (con part kids floats rest) b c = onto_both rest (con part kids floats b) c
