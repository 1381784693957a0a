-- A node that is found is there.
use Rattle.std.proofs.Common.{◌≡◌, Bool, true, false, None, Some, refl, ap}
use Rattle.wm_base.specs.declared.ids.ConId.{ConId}
use Rattle.wm_forest.proofs.ForestLemmas.{only_absent}
use Rattle.wm_forest.specs.declared.part.Part.{Part}
use Rattle.wm_forest.specs.Forest.{Forest}
use Rattle.wm_forest.specs.Look.{first_part, has, only}

pub found_there : (c : ConId) (f : Forest) (p : Part) → first_part (only c f) ≡ Some p → has c f ≡ true
found_there c f p h = by (has c f) refl where
  by : (b : Bool) → has c f ≡ b → has c f ≡ true
  by true e = e
  by false e = let none : first_part (only c f) ≡ None = ap first_part (only_absent c f e) in absurd (cc)
