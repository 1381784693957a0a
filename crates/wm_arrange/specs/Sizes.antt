-- The sizes of contents in an arrangement.
use Rattle.std.specs.Prelude.{Bool, true, false, ◌&&◌, if◌then◌else◌, List, [], ◌∷◌, Option, None, Some}
use Rattle.wm_base.specs.declared.geometry.Size.{Size}
use Rattle.wm_base.specs.declared.ids.ConId.{ConId}
use Rattle.wm_forest.specs.Look.{same}
use Rattle.wm_arrange.specs.declared.parts.Placed.{Placed}
use Rattle.wm_arrange.specs.declared.parts.PlacedPart.{PlacedPart}
use Rattle.wm_arrange.specs.declared.parts.PlacedPart.TheVariants.{Back, Area, Title, Border, Content}

abbrev pub is_content : PlacedPart → Bool
is_content Back = false
is_content Area = false
is_content (Title ink text) = false
is_content (Border ink) = false
is_content Content = true

-- the size of the first content of c; None where it has none
abbrev pub content_size : ConId → List Placed → Option Size
content_size c [] = None
content_size c (p ∷ parts) =
    if same p.con c && is_content p.part then Some (record { w = p.rect.w; h = p.rect.h }) else content_size c parts
