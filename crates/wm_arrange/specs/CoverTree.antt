-- Which pixels the areas of windows and placeholders cover in the arrangement of a whole tree.
use Rattle.std.specs.Prelude.{◌≡◌, ℕ, Bool, true, false, ◌&&◌, if◌then◌else◌, ℤ, List, [], ◌∷◌, Option, None, Some}
use Rattle.wm_base.specs.declared.geometry.Rect.{Rect}
use Rattle.wm_base.specs.declared.ids.ConId.{ConId}
use Rattle.wm_forest.specs.declared.part.NodeKind.{NodeKind}
use Rattle.wm_forest.specs.declared.part.NodeKind.TheVariants.{Root, Output, Space, Con}
use Rattle.wm_forest.specs.Change.{is_end}
use Rattle.wm_forest.specs.Forest.{Forest, end, con}
use Rattle.wm_forest.specs.Look.{first_kids, same}
use Rattle.wm_tree.specs.Sound.{IsSound}
use Rattle.wm_tree.specs.TreeValue.{TreeValue}
use Rattle.wm_arrange.specs.declared.parts.Placed.{Placed}
use Rattle.wm_arrange.specs.AreaOf.{area_of}
use Rattle.wm_arrange.specs.Arranged.{arranged}
use Rattle.wm_arrange.specs.Cover.{AreSplits, SplitsCon, covered, has_pixel, is_area, is_split, leaf_in, one_if}

-- the first of two rows, or the other one where it has no node
abbrev pub or_row : Forest → Forest → Forest
or_row end other = other
or_row (con part kids floats rest) other = con part kids floats rest

-- the node c with its tiled children, alone; nothing where it is neither in the row nor below it, or floats
abbrev pub tiled_at : ConId → Forest → Forest
tiled_at c end = end
tiled_at c (con part kids floats rest) = if same part.id c then con part kids end end else or_row (tiled_at c kids) (tiled_at c rest)

-- the inner gap of a workspace, or what is given for another node
abbrev pub inner_or : NodeKind → ℕ → ℕ
inner_or (Root c) n = n
inner_or (Output o) n = n
inner_or (Space w) n = w.inner
inner_or (Con c) n = n

-- the inner gap of the workspace that is c or has it; 0 where there is none
abbrev pub inner_at : ConId → Forest → ℕ
inner_at c end = 0
inner_at c (con part kids floats rest) =
    if same part.id c then inner_or part.kind 0
    else if is_end (tiled_at c kids) then inner_at c rest
    else inner_or part.kind (inner_at c kids)

-- a container that is no split, or a split or workspace with a child and the layout splith or splitv, as has each
-- split below it
abbrev pub IsOfSplitsNode : NodeKind → Forest → Type 0
IsOfSplitsNode (Root c) kids = ⊥
IsOfSplitsNode (Output o) kids = ⊥
IsOfSplitsNode (Space w) kids = (is_split w.layout ≡ true) × (is_end kids ≡ false) × AreSplits kids
IsOfSplitsNode (Con c) kids = SplitsCon c.kind kids (AreSplits kids)

abbrev pub IsOfSplits : Forest → Type 0
IsOfSplits end = ⊥
IsOfSplits (con part kids floats rest) = IsOfSplitsNode part.kind kids

-- the area of c among the parts; None where it has none
abbrev pub area_in : ConId → List Placed → Option Rect
area_in c [] = None
area_in c (p ∷ ps) = if is_area p.part && same p.con c then Some p.rect else area_in c ps

-- the area has the pixel
abbrev pub has_in : ℤ → ℤ → Option Rect → Bool
has_in x y None = false
has_in x y (Some r) = has_pixel x y r

-- in these parts the areas of the windows and placeholders below a node have each pixel of its area, no pixel twice,
-- and no other pixel; they have none where the node has no area
abbrev pub LeavesCover : Forest → ConId → List Placed → Type 0
LeavesCover node c parts = (x y : ℤ) → covered (leaf_in node) x y parts ≡ one_if (has_in x y (area_in c parts))

-- so it is in the arrangement of a whole tree for each tiled container and each workspace, where its workspace has no
-- inner gap, and where it and each split below it have a child and the layout splith or splitv
abbrev pub CoversInTree : Type 0
CoversInTree = (t : TreeValue) (c : ConId) → IsSound t → inner_at c (first_kids t.nodes) ≡ 0 → IsOfSplits (tiled_at c (first_kids t.nodes))
    → LeavesCover (tiled_at c (first_kids t.nodes)) c (arranged t)

-- the area that a tiled container or workspace has in the arrangement of a whole tree is the one that `area_of` tells
abbrev pub AreasAreTold : Type 0
AreasAreTold = (t : TreeValue) (c : ConId) (r : Rect) → IsSound t → is_end (tiled_at c (first_kids t.nodes)) ≡ false → area_in c (arranged t) ≡ Some r → area_of t c ≡ r
