-- The parts of a row of children, told by the sum of the shares before each.
use Rattle.std.specs.Prelude.{ℕ, ◌+◌, ◌≤◌, Bool, true, false, if◌then◌else◌, List, [], ◌++◌, Option, None, IfSome}
use Rattle.wm_base.specs.declared.geometry.Rect.{Rect}
use Rattle.wm_base.specs.declared.ids.ConId.{ConId}
use Rattle.wm_base.specs.Rect.{inset}
use Rattle.wm_forest.specs.Change.{is_id}
use Rattle.wm_forest.specs.Counts.{share_of}
use Rattle.wm_forest.specs.Forest.{Forest, end, con}
use Rattle.wm_forest.specs.SoundRow.{IsSoundRow, containers}
use Rattle.wm_arrange.specs.declared.parts.Placed.{Placed}
use Rattle.wm_arrange.specs.declared.children.Slots.{Slots}
use Rattle.wm_arrange.specs.declared.children.Slots.TheVariants.{Beside, Alone}
use Rattle.wm_arrange.specs.Areas.{IsArea, cut_between, some_area}
use Rattle.wm_arrange.specs.Arranged.{kids_parts, shown_parts}
use Rattle.wm_arrange.specs.Gaps.{gaps, is_last}
use Rattle.wm_arrange.specs.declared.titles.Lines.{Lines}
use Rattle.wm_arrange.specs.declared.titles.Lines.TheVariants.{Tabs, Stack}
use Rattle.wm_arrange.specs.Scene.{Seen}
use Rattle.wm_arrange.specs.Titles.{line, tab}

-- a sound row of tiled children
abbrev pub IsTiledRow : Forest → Type 0
IsTiledRow row = (room : ℕ) × IsSoundRow containers true room row

-- a sound row of floating windows
abbrev pub IsFloatRow : Forest → Type 0
IsFloatRow row = (room : ℕ) × IsSoundRow containers false room row

-- the area of the child that is the node c, its shares reaching from one sum to another
abbrev pub slot_between : ℕ → Slots → Bool → Bool → ℕ → ℕ → ConId → Option Rect
slot_between inner (Beside axis area total) first last before after c = some_area (inset (cut_between axis area before after total) (gaps axis inner first last))
slot_between inner (Alone area chosen) first last before after c = if is_id c chosen then area else None

abbrev pub own_in : Slots → Bool
own_in (Beside axis area total) = true
own_in (Alone area chosen) = false

-- the area is one on the screen, and shares of this sum are within that of all
abbrev pub HasSlots : Slots → ℕ → Type 0
HasSlots (Beside axis area total) sum = IsArea area × (sum ≤ total) × (total ≤ 268435456)
HasSlots (Alone area chosen) sum = IfSome area (λ area. IsArea area)

-- the parts of a row of children, the shares of those before it having this sum
abbrev pub parts_from : Seen → Slots → Bool → ℕ → Forest → List Placed
parts_from s slots first before end = []
parts_from s slots first before (con part kids floats rest) =
    shown_parts s (own_in slots) part kids (kids_parts s kids) (slot_between s.inner slots first (is_last rest) before (before + share_of part.kind) part.id)
    ++ parts_from s slots false (before + share_of part.kind) rest

-- ---- titles

-- the place of the title of child i
abbrev pub line_at : Lines → Rect → ℕ → Rect
line_at (Tabs count) area i = tab count area i
line_at Stack area i = line area i

-- so many children have a line or a tab
abbrev pub FitsLines : Lines → ℕ → Type 0
FitsLines (Tabs count) n = (n ≤ count) × (count ≤ 256)
FitsLines Stack n = Unit {0}
