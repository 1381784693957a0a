-- Placed parts.
use Rattle.std.specs.Prelude.{◌==◌, ◌||◌, if◌then◌else◌, List, [], ◌∷◌}
use Rattle.wm_base.specs.declared.geometry.Rect.{Rect}
use Rattle.wm_base.specs.declared.ids.ConId.{ConId}
use Rattle.wm_arrange.specs.declared.parts.Placed.{Placed}
use Rattle.wm_arrange.specs.declared.parts.PlacedPart.{PlacedPart}

-- a part at its rectangle; one with an empty rectangle is not placed
abbrev pub placed : ConId → PlacedPart → Rect → List Placed
placed id part rect = if rect.w == 0 || rect.h == 0 then [] else record { con = id; part = part; rect = rect } ∷ []
