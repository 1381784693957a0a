-- The area of a workspace or container, as if its workspace were shown without a fullscreen window and each container
-- on the way to it were the focused child.
use Rattle.std.specs.Prelude.{ℕ, ◌+◌, ◌*◌, ◌==◌, ◌||◌, pos, if◌then◌else◌, Option, None, Some}
use Rattle.std.specs.Option.{option_or}
use Rattle.wm_defs.specs.Cut.{cut}
use Rattle.wm_base.specs.declared.geometry.Axis.{Axis}
use Rattle.wm_base.specs.declared.geometry.Axis.TheVariants.{Across, Down}
use Rattle.wm_base.specs.declared.geometry.Rect.{Rect}
use Rattle.wm_base.specs.declared.ids.ConId.{ConId}
use Rattle.wm_base.specs.declared.plan.Layout.{Layout}
use Rattle.wm_base.specs.declared.plan.Layout.TheVariants.{SplitH, SplitV, Tabbed, Stacked}
use Rattle.wm_base.specs.Rect.{inset}
pub use Rattle.wm_base.specs.Rect.{nowhere}
use Rattle.wm_forest.specs.declared.part.ConKind.{ConKind}
use Rattle.wm_forest.specs.declared.part.ConKind.TheVariants.{Split, Window, Placeholder}
use Rattle.wm_forest.specs.declared.part.NodeKind.{NodeKind}
use Rattle.wm_forest.specs.declared.part.NodeKind.TheVariants.{Root, Output, Space, Con}
use Rattle.wm_forest.specs.declared.part.OutputPart.{OutputPart}
use Rattle.wm_forest.specs.declared.part.SpacePart.{SpacePart}
use Rattle.wm_forest.specs.Counts.{row_length}
use Rattle.wm_forest.specs.Forest.{Forest, end, con}
use Rattle.wm_forest.specs.Look.{first_kids, output_kind, same, space_kind}
use Rattle.wm_tree.specs.TreeValue.{TreeValue}
use Rattle.wm_arrange.specs.Areas.{shares, side_of, slice_of}
use Rattle.wm_arrange.specs.Gaps.{gaps, ground, is_first, is_last}
use Rattle.wm_arrange.specs.Titles.{lower}

-- an area without pixels is taken at 0,0, with its width and height
abbrev pub as_area : Rect → Rect
as_area r = if r.w == 0 || r.h == 0 then record { x = pos 0; y = pos 0; w = r.w; h = r.h } else r

-- ---- the children of a container

-- the cut of an area for child i along an axis, without its parts of the gaps, the row behind it being `rest`
abbrev pub cut_area : ℕ → Axis → Rect → Forest → ℕ → Forest → Rect
cut_area inner axis area kids i rest = as_area (inset (slice_of axis area (cut (side_of axis area) (shares kids) i)) (gaps axis inner (is_first i) (is_last rest)))

-- the area of child i of a container with this layout, area and children: its cut, or what the titles leave
abbrev pub child_area : ℕ → Layout → Rect → Forest → ℕ → Forest → Rect
child_area inner SplitH area kids i rest = cut_area inner Across area kids i rest
child_area inner SplitV area kids i rest = cut_area inner Down area kids i rest
child_area inner Tabbed area kids i rest = as_area (lower 20 area)
child_area inner Stacked area kids i rest = as_area (lower (20 * row_length kids) area)

abbrev pub con_layout : ConKind → Layout
con_layout (Split layout last) = layout
con_layout (Window props owner natural) = SplitH
con_layout (Placeholder props swallows) = SplitH

-- the layout of a split; nothing else has children of this kind
abbrev pub layout_of : NodeKind → Layout
layout_of (Root c) = SplitH
layout_of (Output o) = SplitH
layout_of (Space s) = SplitH
layout_of (Con c) = con_layout c.kind

-- the area of the container c among the children from child i on, or below them, in a container with this layout,
-- area and children
abbrev pub area_among : ℕ → ConId → Layout → Rect → Forest → ℕ → Forest → Option Rect
area_among inner c layout area kids i end = None
area_among inner c layout area kids i (con part below floats rest) =
    if same part.id c then Some (child_area inner layout area kids i rest)
    else option_or (area_among inner c (layout_of part.kind) (child_area inner layout area kids i rest) below 0 below) (area_among inner c layout area kids (i + 1) rest)

-- ---- workspaces and outputs

-- the area of c in a workspace on which its children stand in this area
abbrev pub area_on : ConId → ConId → SpacePart → Forest → Rect → Option Rect
area_on c id space kids area = if same id c then Some area else area_among space.inner c space.layout area kids 0 kids

abbrev pub area_in_space : ConId → OutputPart → ConId → Option SpacePart → Forest → Option Rect
area_in_space c output id None kids = None
area_in_space c output id (Some space) kids = area_on c id space kids (as_area (ground output.rect output.reserved space.outer space.inner))

-- the area of c in one of a row of workspaces
abbrev pub area_in_spaces : ConId → OutputPart → Forest → Option Rect
area_in_spaces c output end = None
area_in_spaces c output (con part kids floats rest) = option_or (area_in_space c output part.id (space_kind part.kind) kids) (area_in_spaces c output rest)

abbrev pub area_in_output : ConId → Option OutputPart → Forest → Option Rect
area_in_output c None spaces = None
area_in_output c (Some output) spaces = area_in_spaces c output spaces

-- the area of c on one of a row of outputs
abbrev pub area_in_outputs : ConId → Forest → Option Rect
area_in_outputs c end = None
area_in_outputs c (con part kids floats rest) = option_or (area_in_output c (output_kind part.kind) kids) (area_in_outputs c rest)

abbrev pub or_nowhere : Option Rect → Rect
or_nowhere None = nowhere
or_nowhere (Some area) = area

-- the area of the workspace or tiled container c; none of it where the id names no such node
abbrev pub area_of : TreeValue → ConId → Rect
area_of t c = or_nowhere (area_in_outputs c (first_kids t.nodes))
