-- The arrangement of a tree: where the parts of each output's workspace are placed.
use Rattle.std.specs.Prelude.{ℕ, ◌+◌, ◌*◌, ◌&&◌, Bool, true, false, if◌then◌else◌, List, [], ◌++◌, Option, None, Some, option_and_then}
use Rattle.std.specs.Option.{option_or}
use Rattle.wm_defs.specs.Cut.{cut}
use Rattle.wm_base.specs.declared.geometry.Axis.{Axis}
use Rattle.wm_base.specs.declared.geometry.Axis.TheVariants.{Across, Down}
use Rattle.wm_base.specs.declared.geometry.Rect.{Rect}
use Rattle.wm_base.specs.declared.ids.ConId.{ConId}
use Rattle.wm_base.specs.declared.plan.Layout.{Layout}
use Rattle.wm_base.specs.declared.plan.Layout.TheVariants.{SplitH, SplitV, Tabbed, Stacked}
use Rattle.wm_base.specs.Rect.{inset}
use Rattle.wm_forest.specs.declared.part.ConKind.{ConKind}
use Rattle.wm_forest.specs.declared.part.ConKind.TheVariants.{Split, Window, Placeholder}
use Rattle.wm_forest.specs.declared.part.ConPart.{ConPart}
use Rattle.wm_forest.specs.declared.part.NodeKind.{NodeKind}
use Rattle.wm_forest.specs.declared.part.NodeKind.TheVariants.{Root, Output, Space, Con}
use Rattle.wm_forest.specs.declared.part.OutputPart.{OutputPart}
use Rattle.wm_forest.specs.declared.part.Part.{Part}
use Rattle.wm_forest.specs.declared.part.SpacePart.{SpacePart}
use Rattle.wm_forest.specs.Change.{is_id, is_window_kind}
use Rattle.wm_forest.specs.Counts.{row_length}
use Rattle.wm_forest.specs.Forest.{Forest, end, con}
use Rattle.wm_forest.specs.Look.{first_kids, node_in, output_kind, space_kind}
use Rattle.wm_tree.specs.TreeValue.{TreeValue, focused}
use Rattle.wm_forest.specs.Focus.{focused_in}
use Rattle.wm_arrange.specs.declared.parts.Placed.{Placed}
use Rattle.wm_arrange.specs.declared.parts.PlacedPart.TheVariants.{Back, Area, Content}
use Rattle.wm_arrange.specs.Areas.{near_area, shares, side_of, slice_of, some_area}
use Rattle.wm_arrange.specs.Borders.{window_parts}
use Rattle.wm_arrange.specs.Gaps.{gaps, ground, is_first, is_last}
use Rattle.wm_arrange.specs.Parts.{placed}
use Rattle.wm_arrange.specs.Scene.{Seen, seen_in}
use Rattle.wm_arrange.specs.Titles.{kids_titles, lower, own_title}

-- ---- the children of a container

-- how the children of a container stand in its area: beside each other along an axis, given their shares, or one of
-- them alone in what the titles leave
pub data Standing : Type 0 where
  beside : Axis → Rect → List ℕ → Standing
  alone : Option Rect → Option ConId → Standing

-- splits put their children beside each other; tabbed and stacked ones show the most recent child, below one title
-- line or below one line for each child
abbrev pub standing : List ConId → Layout → Rect → Forest → Standing
standing recency SplitH area kids = beside Across area (shares kids)
standing recency SplitV area kids = beside Down area (shares kids)
standing recency Tabbed area kids = alone (some_area (lower 20 area)) (focused_in recency kids)
standing recency Stacked area kids = alone (some_area (lower (20 * row_length kids) area)) (focused_in recency kids)

-- the area of child i, which is the node c, the row behind it being `rest`: its cut of the area without its parts of
-- the gaps, or what the titles leave. None where it is not shown, or its area is empty
abbrev pub slot : ℕ → Standing → ℕ → ConId → Forest → Option Rect
slot inner (beside axis area all) i c rest =
    some_area (inset (slice_of axis area (cut (side_of axis area) all i)) (gaps axis inner (is_first i) (is_last rest)))
slot inner (alone area chosen) i c rest = if is_id c chosen then area else None

-- a child that stands alone below titles has none of its own
abbrev pub has_own_title : Standing → Bool
has_own_title (beside axis area all) = true
has_own_title (alone area chosen) = false

-- what a container has in its area: a window its title, border and content, a placeholder its title, and a split its
-- children
abbrev pub con_parts : Seen → Bool → Part → ConPart → ConKind → Forest → Rect → (Layout → List Placed) → List Placed
con_parts s own part c (Split layout last) kids area children = children layout
con_parts s own part c (Window props owner natural) kids area children = window_parts s own part kids c.state.border area
con_parts s own part c (Placeholder props swallows) kids area children = own_title s own part kids c.state.border area

abbrev pub node_parts : Seen → Bool → Part → NodeKind → Forest → Rect → (Layout → List Placed) → List Placed
node_parts s own part (Root c) kids area children = []
node_parts s own part (Output o) kids area children = []
node_parts s own part (Space w) kids area children = []
node_parts s own part (Con c) kids area children = con_parts s own part c c.kind kids area children

-- the parts of a node, where it is shown: its area, then what it has there
abbrev pub shown_parts : Seen → Bool → Part → Forest → (Rect → Layout → List Placed) → Option Rect → List Placed
shown_parts s own part kids children None = []
shown_parts s own part kids children (Some area) = placed part.id Area area ++ node_parts s own part part.kind kids area (children area)

-- the parts of a row of children, the first of them being child i
abbrev pub row_parts : Seen → Standing → ℕ → Forest → List Placed
row_parts s standing_in i end = []
row_parts s standing_in i (con part kids floats rest) =
    shown_parts s (has_own_title standing_in) part kids
    (λ area layout. kids_titles s layout area kids ++ row_parts s (standing s.recency layout area kids) 0 kids)
    (slot s.inner standing_in i part.id rest)
    ++ row_parts s standing_in (i + 1) rest

-- the parts of the children in the area of a container with this layout: their titles, then what they have
abbrev pub kids_parts : Seen → Forest → Rect → Layout → List Placed
kids_parts s kids area layout = kids_titles s layout area kids ++ row_parts s (standing s.recency layout area kids) 0 kids

-- ---- floating and fullscreen windows

-- the outer rectangle of a container
abbrev pub rect_of : NodeKind → Option Rect
rect_of (Root c) = None
rect_of (Output o) = None
rect_of (Space s) = None
rect_of (Con c) = c.state.rect

-- the parts of floating windows, in order
abbrev pub floats_parts : Seen → Forest → List Placed
floats_parts s end = []
floats_parts s (con part kids floats rest) =
    shown_parts s true part kids (λ area layout. []) (option_and_then near_area (rect_of part.kind)) ++ floats_parts s rest

-- a fullscreen window
abbrev pub is_fullscreen : NodeKind → Bool
is_fullscreen (Root c) = false
is_fullscreen (Output o) = false
is_fullscreen (Space s) = false
is_fullscreen (Con c) = c.state.fullscreen && is_window_kind c.kind

-- the first fullscreen window of a row, at any depth
abbrev pub fullscreen_in : Forest → Option ConId
fullscreen_in end = None
fullscreen_in (con part kids floats rest) =
    if is_fullscreen part.kind then Some part.id else option_or (fullscreen_in kids) (option_or (fullscreen_in floats) (fullscreen_in rest))

-- ---- workspaces and outputs

-- a workspace's area and its children in it, unless it is empty
abbrev pub tiled_parts : Seen → ConId → SpacePart → Forest → Option Rect → List Placed
tiled_parts s id space kids None = []
tiled_parts s id space kids (Some area) = placed id Area area ++ kids_parts s kids area space.layout

-- what stands on a workspace: its fullscreen window at the output's rectangle, or else its area with its children, and
-- its floating windows
abbrev pub on_space : Seen → OutputPart → ConId → SpacePart → Forest → Forest → Option ConId → List Placed
on_space s output id space kids floats None = tiled_parts s id space kids (some_area (ground output.rect output.reserved space.outer space.inner)) ++ floats_parts s floats
on_space s output id space kids floats (Some c) = placed c Content output.rect

abbrev pub space_parts : TreeValue → ConId → OutputPart → ConId → Option SpacePart → Forest → Forest → List Placed
space_parts t c output id None kids floats = []
space_parts t c output id (Some space) kids floats =
    placed id Back output.rect
    ++ on_space (seen_in t c space.inner) output id space kids floats (option_or (fullscreen_in kids) (fullscreen_in floats))

-- the parts of the workspace that an output shows: the first of the row
abbrev pub first_space : TreeValue → ConId → OutputPart → Forest → List Placed
first_space t c output end = []
first_space t c output (con part kids floats rest) = space_parts t c output part.id (space_kind part.kind) kids floats

abbrev pub output_parts : TreeValue → ConId → Option OutputPart → Forest → List Placed
output_parts t c None spaces = []
output_parts t c (Some output) spaces = first_space t c output (node_in output.shown spaces)

-- the parts of a row of outputs, in order
abbrev pub outputs_parts : TreeValue → ConId → Forest → List Placed
outputs_parts t c end = []
outputs_parts t c (con part kids floats rest) = output_parts t c (output_kind part.kind) kids ++ outputs_parts t c rest

-- the arrangement of a tree, of which this is the focused node
abbrev pub arranged : TreeValue → List Placed
arranged t = outputs_parts t (focused t) (first_kids t.nodes)
