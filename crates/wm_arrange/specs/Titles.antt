-- Titles: lines of 20 pixels, above a window or above the children of a container.
use Rattle.std.specs.Prelude.{ℕ, ◌+◌, ◌-◌, ◌*◌, min, pos, ◌+ℤ◌, Bool, if◌then◌else◌, List, [], ◌++◌}
use Rattle.wm_base.specs.declared.geometry.Axis.TheVariants.{Across}
use Rattle.wm_base.specs.declared.geometry.Rect.{Rect}
use Rattle.wm_base.specs.declared.plan.Border.{Border}
use Rattle.wm_base.specs.declared.plan.Border.TheVariants.{Normal, Pixel, Bare}
use Rattle.wm_base.specs.declared.plan.Layout.{Layout}
use Rattle.wm_base.specs.declared.plan.Layout.TheVariants.{SplitH, SplitV, Tabbed, Stacked}
use Rattle.wm_forest.specs.declared.part.Part.{Part}
use Rattle.wm_forest.specs.Counts.{row_length}
use Rattle.wm_forest.specs.Forest.{Forest, end, con}
use Rattle.wm_arrange.specs.declared.parts.Placed.{Placed}
use Rattle.wm_arrange.specs.declared.parts.PlacedPart.TheVariants.{Title}
use Rattle.wm_arrange.specs.Areas.{cut_between}
use Rattle.wm_arrange.specs.Parts.{placed}
use Rattle.wm_arrange.specs.Scene.{Seen, ink}
use Rattle.wm_arrange.specs.TitleText.{title_text}

-- the upper n rows of pixels of an area, or all where it has fewer
abbrev pub upper : ℕ → Rect → Rect
upper n area = record area { h = min n area.h }

-- what is below the upper n rows of pixels of an area
abbrev pub lower : ℕ → Rect → Rect
lower n area = record area { y = area.y +ℤ pos n; h = area.h - n }

-- the title of a container
abbrev pub title_part : Seen → Part → Forest → Rect → List Placed
title_part s part kids rect = placed part.id (Title (ink s part.id) (title_text part kids)) rect

-- ---- above the children of a container

-- line i from above
abbrev pub line : Rect → ℕ → Rect
line area i = upper 20 (lower (20 * i) area)

-- share i of one line that is cut into n equal ones
abbrev pub tab : ℕ → Rect → ℕ → Rect
tab n area i = cut_between Across (upper 20 area) i (i + 1) n

-- the titles of a row of children, the first of them being child i
abbrev pub titles : Seen → (ℕ → Rect) → ℕ → Forest → List Placed
titles s at i end = []
titles s at i (con part kids floats rest) = title_part s part kids (at i) ++ titles s at (i + 1) rest

-- the titles in the area of a container: a line for each child of a stacked one, and one line for a tabbed one
abbrev pub kids_titles : Seen → Layout → Rect → Forest → List Placed
kids_titles s SplitH area kids = []
kids_titles s SplitV area kids = []
kids_titles s Tabbed area kids = titles s (tab (row_length kids) area) 0 kids
kids_titles s Stacked area kids = titles s (line area) 0 kids

-- ---- above a window

-- the title of a window or placeholder that has its own, at the top of its area
abbrev pub own_title : Seen → Bool → Part → Forest → Border → Rect → List Placed
own_title s own part kids (Normal n) area = if own then title_part s part kids (upper 20 area) else []
own_title s own part kids (Pixel n) area = []
own_title s own part kids Bare area = []
