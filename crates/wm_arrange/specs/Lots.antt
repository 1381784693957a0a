-- The areas of all children of a container, told by the sum of the shares before each.
use Rattle.std.specs.Prelude.{ℕ, ◌+◌, ◌≤◌, Bool, false, if◌then◌else◌, Option, None, Some}
use Rattle.std.specs.Option.{option_or}
use Rattle.wm_base.specs.declared.geometry.Rect.{Rect}
use Rattle.wm_base.specs.declared.ids.ConId.{ConId}
use Rattle.wm_base.specs.Rect.{inset}
use Rattle.wm_forest.specs.Counts.{share_of}
use Rattle.wm_forest.specs.Forest.{Forest, end, con}
use Rattle.wm_forest.specs.Look.{same}
use Rattle.wm_arrange.specs.declared.lots.Lots.{Lots}
use Rattle.wm_arrange.specs.declared.lots.Lots.TheVariants.{Beside, Below}
use Rattle.wm_arrange.specs.AreaOf.{area_among, as_area, layout_of}
use Rattle.wm_arrange.specs.Areas.{IsArea, cut_between}
use Rattle.wm_arrange.specs.Gaps.{gaps, is_last}

-- the area of a child whose shares reach from one sum to another
abbrev pub lot_between : ℕ → Lots → Bool → Bool → ℕ → ℕ → Rect
lot_between inner (Beside axis area total) first last before after = as_area (inset (cut_between axis area before after total) (gaps axis inner first last))
lot_between inner (Below area) first last before after = area

-- the area is one on the screen, and shares of this sum are within that of all
abbrev pub HasLots : Lots → ℕ → Type 0
HasLots (Beside axis area total) sum = IsArea area × (sum ≤ total) × (total ≤ 268435456)
HasLots (Below area) sum = IsArea area

-- the area of the container c in the row or below it, the shares of the nodes before the row having this sum
abbrev pub area_from : ℕ → ConId → Lots → Bool → ℕ → Forest → Option Rect
area_from inner c lots first before end = None
area_from inner c lots first before (con part kids floats rest) =
    if same part.id c then Some (lot_between inner lots first (is_last rest) before (before + share_of part.kind))
    else option_or (area_among inner c (layout_of part.kind) (lot_between inner lots first (is_last rest) before (before + share_of part.kind)) kids 0 kids)
    (area_from inner c lots false (before + share_of part.kind) rest)
