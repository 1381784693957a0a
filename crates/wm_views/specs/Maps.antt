-- What is looked up by id: the rectangles of parts.
use Rattle.std.specs.Prelude.{Bool, true, false, if◌then◌else◌, List, [], ◌∷◌, Option, None, Some}
use Rattle.std.specs.Option.{option_or}
use Rattle.wm_arrange.specs.AreaOf.{or_nowhere}
pub use Rattle.wm_arrange.specs.Maps.{holds, value_at}
use Rattle.wm_arrange.specs.declared.parts.Placed.{Placed}
use Rattle.wm_arrange.specs.declared.parts.PlacedPart.{PlacedPart}
use Rattle.wm_arrange.specs.declared.parts.PlacedPart.TheVariants.{Area, Title, Content}
use Rattle.wm_base.specs.declared.geometry.Rect.{Rect}
use Rattle.wm_base.specs.declared.ids.ConId.{ConId}
use Rattle.wm_forest.specs.Look.{same}
use Rattle.wm_views.specs.declared.maps.NodeRects.{NodeRects}
use Rattle.wm_views.specs.declared.maps.Wanted.{Wanted}
use Rattle.wm_views.specs.declared.maps.Wanted.TheVariants as wanted

-- the part is of the kind that is wanted
abbrev pub is_wanted : Wanted → PlacedPart → Bool
is_wanted wanted.Areas Area = true
is_wanted wanted.Titles (Title ink text) = true
is_wanted wanted.Contents Content = true
is_wanted w part = false

-- a part's rectangle, where the part is wanted
abbrev pub rect_of : Wanted → Placed → Option Rect
rect_of w p = if is_wanted w p.part then Some p.rect else None

-- what c has, where a node has this
abbrev pub of_node : {A : Type 0} → ConId → ConId → Option A → Option A
of_node c id None = None
of_node c id (Some x) = if same id c then Some x else None

-- the rectangle of the first wanted part of the node c
abbrev pub rect_at : Wanted → ConId → List Placed → Option Rect
rect_at w c [] = None
rect_at w c (p ∷ ps) = option_or (of_node c p.con (rect_of w p)) (rect_at w c ps)

-- the area of the node c, without pixels at 0,0 where it is not placed
abbrev pub area : List Placed → ConId → Rect
area parts c = or_nowhere (rect_at wanted.Areas c parts)

-- ---- maps

-- the rectangle of a node that is wanted
abbrev pub rect_in : Wanted → NodeRects → Option Rect
rect_in wanted.Areas r = r.area
rect_in wanted.Titles r = r.title
rect_in wanted.Contents r = r.content

-- what was kept of a node; nothing of it is placed where nothing was kept
abbrev pub or_unplaced : Option NodeRects → NodeRects
or_unplaced None = record { area = None; title = None; content = None }
or_unplaced (Some r) = r

-- what was kept of a node has it
abbrev pub rect_kept : Wanted → Option NodeRects → Option Rect
rect_kept w None = None
rect_kept w (Some r) = rect_in w r

-- what c has after the node was given a value
abbrev pub put_at : {A : Type 0} → ConId → A → ConId → Option A → Option A
put_at id x c before = if same id c then Some x else before
