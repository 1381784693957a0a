-- Borders: what a window has in its area.
use Rattle.std.specs.Prelude.{ℕ, ◌==◌, ◌||◌, Bool, if◌then◌else◌, List, [], ◌++◌}
use Rattle.wm_base.specs.declared.geometry.Rect.{Rect}
use Rattle.wm_base.specs.declared.plan.Border.{Border}
use Rattle.wm_base.specs.declared.plan.Border.TheVariants.{Normal, Pixel, Bare}
use Rattle.wm_base.specs.Rect.{inset}
use Rattle.wm_forest.specs.declared.part.Part.{Part}
use Rattle.wm_forest.specs.Forest.{Forest}
use Rattle.wm_arrange.specs.declared.parts.Placed.{Placed}
use Rattle.wm_arrange.specs.declared.parts.PlacedPart.TheVariants as parts
use Rattle.wm_arrange.specs.Gaps.{all_sides}
use Rattle.wm_arrange.specs.Parts.{placed}
use Rattle.wm_arrange.specs.Scene.{Seen, ink}
use Rattle.wm_arrange.specs.Titles.{lower, own_title}

-- what the title leaves of a window's area: all of it where the window has no title of its own
abbrev pub below_title : Bool → Border → Rect → Rect
below_title own (Normal n) area = if own then lower 20 area else area
below_title own (Pixel n) area = area
below_title own Bare area = area

-- what the border leaves of that to the content: below a title nothing is lost at the top
abbrev pub within_border : Border → Rect → Rect
within_border (Normal n) rect = inset rect (record { top = 0; right = n; bottom = n; left = n })
within_border (Pixel n) rect = inset rect (all_sides n)
within_border Bare rect = rect

abbrev pub width : Border → ℕ
width (Normal n) = n
width (Pixel n) = n
width Bare = 0

-- the border of a window, unless it has no width
abbrev pub border_part : Seen → Part → Border → Rect → List Placed
border_part s part border rect = if width border == 0 then [] else placed part.id (parts.Border (ink s part.id)) rect

-- title, border and content of a window, from what the title leaves of its area; nothing where the content is empty
abbrev pub bordered : Seen → Bool → Part → Forest → Border → Rect → Rect → Rect → List Placed
bordered s own part kids border area rect content =
    if content.w == 0 || content.h == 0 then []
    else own_title s own part kids border area ++ (border_part s part border rect ++ placed part.id parts.Content content)

-- what a window has in its area
abbrev pub window_parts : Seen → Bool → Part → Forest → Border → Rect → List Placed
window_parts s own part kids border area =
    let rect : Rect = below_title own border area in
    bordered s own part kids border area rect (within_border border rect)
