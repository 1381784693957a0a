-- Two arrangements are one: the same parts in the same order.
use Rattle.std.specs.Prelude.{Bool, true, false, ◌==◌, ◌&&◌, List}
use Rattle.std.specs.Cmp.Lexicographic.{pointwise}
use Rattle.std.specs.Ordering.{int_eq}
use Rattle.std.specs.Str.{bytes_eq}
use Rattle.wm_base.specs.declared.geometry.Rect.{Rect}
use Rattle.wm_forest.specs.Look.{same}
use Rattle.wm_arrange.specs.declared.parts.Placed.{Placed}
use Rattle.wm_arrange.specs.declared.parts.PlacedPart.{PlacedPart}
use Rattle.wm_arrange.specs.declared.parts.PlacedPart.TheVariants.{Back, Area, Title, Border, Content}

abbrev pub same_part : PlacedPart → PlacedPart → Bool
same_part Back Back = true
same_part Area Area = true
same_part (Title ink text) (Title other words) = ink.0 == other.0 && bytes_eq text words
same_part (Border ink) (Border other) = ink.0 == other.0
same_part Content Content = true
same_part part other = false

abbrev pub same_rect : Rect → Rect → Bool
same_rect a b = int_eq a.x b.x && (int_eq a.y b.y && (a.w == b.w && a.h == b.h))

abbrev pub same_placed : Placed → Placed → Bool
same_placed a b = same a.con b.con && (same_part a.part b.part && same_rect a.rect b.rect)

abbrev pub same_parts : List Placed → List Placed → Bool
same_parts = pointwise same_placed
