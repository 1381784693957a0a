-- Nodes as replies and events show them.
use Rattle.std.specs.Prelude.{ℕ, Bool, true, false, ◌||◌, if◌then◌else◌, ℤ, pos, negsuc, int_lt, ◌-ℤ◌, List, [], ◌∷◌, ◌++◌, map, Option, None, Some, codes}
use Rattle.wm_arrange.specs.declared.parts.Placed.{Placed}
use Rattle.wm_arrange.specs.TitleText.{title_text}
use Rattle.wm_base.specs.declared.geometry.Rect.{Rect}
use Rattle.wm_base.specs.declared.geometry.Size.{Size}
use Rattle.wm_base.specs.declared.ids.ConId.{ConId}
use Rattle.wm_base.specs.declared.plan.Border.{Border}
use Rattle.wm_base.specs.declared.plan.Border.TheVariants.{Normal, Pixel, Bare}
use Rattle.wm_base.specs.declared.plan.Layout.{Layout}
use Rattle.wm_base.specs.declared.plan.Layout.TheVariants.{SplitH, SplitV, Tabbed, Stacked}
use Rattle.wm_base.specs.declared.properties.Props.{Props}
use Rattle.wm_forest.specs.declared.part.ConKind.{ConKind}
use Rattle.wm_forest.specs.declared.part.ConKind.TheVariants.{Split, Window, Placeholder}
use Rattle.wm_forest.specs.declared.part.ConPart.{ConPart}
use Rattle.wm_forest.specs.declared.part.OutputPart.{OutputPart}
use Rattle.wm_forest.specs.declared.part.Part.{Part}
use Rattle.wm_forest.specs.declared.part.SpacePart.{SpacePart}
use Rattle.wm_forest.specs.Counts.{share_sum}
use Rattle.wm_forest.specs.Forest.{Forest, end, con}
use Rattle.wm_forest.specs.Look.{con_kind, output_kind, same, space_kind}
use Rattle.wm_forest.specs.Recency.{lists}
use Rattle.wm_json.specs.declared.views.NodeView.{NodeView}
use Rattle.wm_json.specs.declared.views.NodeView.TheOpen.{NodeView-F}
use Rattle.wm_json.specs.declared.views.NodeView.TheViews.{roll-NodeView}
use Rattle.wm_tree.specs.TreeValue.{TreeValue, focused}
use Rattle.wm_views.specs.declared.cons.Above.{Above}
use Rattle.wm_views.specs.declared.maps.Wanted.TheVariants as wanted
use Rattle.wm_arrange.specs.AreaOf.{nowhere}
use Rattle.wm_views.specs.Maps.{area, rect_at}
use Rattle.wm_views.specs.Outputs.{name_in}
use Rattle.wm_views.specs.Recency.{focus, least_place, placed_row, put_nodes}
use Rattle.wm_views.specs.Workspaces.{has_urgent, number}

-- ---- words

abbrev pub border_word : Border → List ℕ
border_word (Normal n) = codes "normal"
border_word (Pixel n) = codes "pixel"
border_word Bare = codes "none"

abbrev pub border_width : Border → ℕ
border_width (Normal n) = n
border_width (Pixel n) = n
border_width Bare = 0

abbrev pub layout_word : Layout → List ℕ
layout_word SplitH = codes "splith"
layout_word SplitV = codes "splitv"
layout_word Tabbed = codes "tabbed"
layout_word Stacked = codes "stacked"

abbrev pub orientation_word : Layout → List ℕ
orientation_word SplitH = codes "horizontal"
orientation_word SplitV = codes "vertical"
orientation_word Tabbed = codes "horizontal"
orientation_word Stacked = codes "vertical"

-- floating windows and those of the scratchpad have a type of their own
abbrev pub type_word : Bool → List ℕ
type_word true = codes "floating_con"
type_word false = codes "con"

-- ---- rectangles

-- the nearest number that a place may have; places that are counted from each other in a tree are nearer
abbrev pub within : ℤ → ℤ
within z = if int_lt z (negsuc 2147483647) then negsuc 2147483647 else if int_lt (pos 2147483647) z then pos 2147483647 else z

-- a rectangle, its place counted from that of another; all 0 where there is none
abbrev pub counted_from : Rect → Option Rect → Rect
counted_from from None = nowhere
counted_from from (Some r) = record r { x = within (r.x -ℤ from.x); y = within (r.y -ℤ from.y) }

-- ---- views by kind

-- the fields of a view
abbrev pub Shown : Type 0
Shown = NodeView-F NodeView

-- the view of a node that has nothing but an id, a name and a type
abbrev pub plain : ℕ → List ℕ → List ℕ → Shown
plain id name kind = record {
  border = codes "none";
  current_border_width = 0;
  deco_rect = nowhere;
  floating_nodes = [];
  focus = [];
  focused = false;
  fullscreen_mode = 0;
  geometry = nowhere;
  id = id;
  layout = codes "splith";
  marks = [];
  name = name;
  nodes = [];
  orientation = codes "none";
  rect = nowhere;
  share = 0;
  share_sum = 0;
  sticky = false;
  kind = kind;
  urgent = false;
  window = None;
  window_properties = None;
  window_rect = nowhere;
  window_type = None;
  num = None;
  output = None;
  visible = None;
  active = None;
  current_workspace = None;
  primary = None;
}

-- with a layout
abbrev pub laid : Layout → Shown → Shown
laid l v = record v { layout = layout_word l; orientation = orientation_word l }

-- an output with this name, which shows the workspace of that name
abbrev pub outlined : ℕ → List ℕ → List ℕ → Shown
outlined id name shown = record (plain id name (codes "output")) { layout = codes "output"; current_workspace = Some shown }

-- an output over its workspaces, and whether it is the first
abbrev pub output_node : TreeValue → Bool → Part → OutputPart → Forest → Shown
output_node t first part o spaces = record (outlined part.id.0 o.name (name_in o.shown spaces)) {
  rect = o.rect;
  urgent = has_urgent t.urgent spaces;
  active = Some true;
  primary = Some first;
}

-- a workspace on an output, over its children and floating windows
abbrev pub space_node : TreeValue → List Placed → OutputPart → Part → SpacePart → Forest → Forest → Shown
space_node t parts o part s kids floats = record (laid s.layout (plain part.id.0 s.name (codes "workspace"))) {
  focused = same part.id (focused t);
  rect = area parts part.id;
  urgent = has_urgent t.urgent kids || has_urgent t.urgent floats;
  num = Some (number s.name);
  output = Some o.name;
  visible = Some (same part.id o.shown);
}

-- a container of any kind, over its children
abbrev pub any_con : TreeValue → List Placed → Above → Part → ConPart → List ℕ → Forest → Shown
any_con t parts above part c name kids = record (plain part.id.0 name (type_word above.floating)) {
  deco_rect = counted_from above.rect (rect_at wanted.Titles part.id parts);
  focused = same part.id (focused t);
  marks = part.marks;
  rect = area parts part.id;
  share = c.share;
  share_sum = above.shares;
  sticky = c.state.sticky;
  urgent = lists part.id t.urgent || has_urgent t.urgent kids;
}

-- what a window's view has besides
abbrev pub window_node : List Placed → Part → ConPart → Props → Size → Shown → Shown
window_node parts part c props natural v = record v {
  border = border_word c.state.border;
  current_border_width = border_width c.state.border;
  fullscreen_mode = if c.state.fullscreen then 1 else 0;
  geometry = record { x = pos 0; y = pos 0; w = natural.w; h = natural.h };
  window = Some part.id.0;
  window_properties = Some props;
  window_rect = counted_from (area parts part.id) (rect_at wanted.Contents part.id parts);
  window_type = Some props.kind;
}

abbrev pub con_node : TreeValue → List Placed → Above → Part → ConPart → ConKind → Forest → Shown
con_node t parts above part c (Split layout last) kids = laid layout (any_con t parts above part c (title_text part kids) kids)
con_node t parts above part c (Window props owner natural) kids = window_node parts part c props natural (any_con t parts above part c props.title kids)
con_node t parts above part c (Placeholder props swallows) kids = any_con t parts above part c props.title kids

-- ---- rows

-- with the views of the rows below it, and the ids of them by recency
abbrev pub rowed : List NodeView → List NodeView → List ℕ → Shown → Shown
rowed nodes floating focus v = record v { nodes = nodes; floating_nodes = floating; focus = focus }

-- with the views of its children and floating windows
abbrev pub with_rows : List ConId → Forest → Forest → List NodeView → List NodeView → Shown → Shown
with_rows ids kids floats nodes floating v = rowed nodes floating (focus ids kids floats) v

-- above the children of a node
abbrev pub over_kids : List Placed → ConId → Forest → Above
over_kids parts id kids = record { rect = area parts id; shares = share_sum kids; floating = false }

-- above floating windows, within this rectangle
abbrev pub over_floats : Rect → Above
over_floats rect = record { rect = rect; shares = 0; floating = true }

-- a container with its children
abbrev pub con_views : TreeValue → List Placed → Above → Part → Option ConPart → Forest → List NodeView → List NodeView
con_views t parts above part None kids nodes = []
con_views t parts above part (Some c) kids nodes = roll-NodeView (with_rows t.recency kids end nodes [] (con_node t parts above part c c.kind kids)) ∷ []

-- the containers of a row
abbrev pub cons : TreeValue → List Placed → Above → Forest → List NodeView
cons t parts above end = []
cons t parts above (con part kids floats rest) =
    con_views t parts above part (con_kind part.kind) kids (cons t parts (over_kids parts part.id kids) kids) ++ cons t parts above rest

abbrev pub space_nodes : TreeValue → List Placed → OutputPart → Part → Option SpacePart → Forest → Forest → List NodeView
space_nodes t parts o part None kids floats = []
space_nodes t parts o part (Some s) kids floats =
    roll-NodeView (with_rows t.recency kids floats (cons t parts (over_kids parts part.id kids) kids) (cons t parts (over_floats (area parts part.id)) floats) (space_node t parts o part s kids floats)) ∷ []

-- the workspaces of an output
abbrev pub spaces_under : TreeValue → List Placed → OutputPart → Forest → List NodeView
spaces_under t parts o end = []
spaces_under t parts o (con part kids floats rest) = space_nodes t parts o part (space_kind part.kind) kids floats ++ spaces_under t parts o rest

abbrev pub output_nodes : TreeValue → List Placed → Bool → Part → Option OutputPart → Forest → List NodeView
output_nodes t parts first part None spaces = []
output_nodes t parts first part (Some o) spaces = roll-NodeView (with_rows t.recency spaces end (spaces_under t parts o spaces) [] (output_node t first part o spaces)) ∷ []

-- the outputs of a row
abbrev pub outputs_under : TreeValue → List Placed → Bool → Forest → List NodeView
outputs_under t parts first end = []
outputs_under t parts first (con part kids floats rest) = output_nodes t parts first part (output_kind part.kind) kids ++ outputs_under t parts false rest

-- ---- the scratchpad, and the whole tree

-- the workspace of the scratchpad, without its windows
abbrev pub scratch_space : TreeValue → Forest → Shown
scratch_space t windows = record (plain 4294967295 (codes "__i3_scratch") (codes "workspace")) {
  orientation = codes "horizontal";
  urgent = has_urgent t.urgent windows;
  num = Some (negsuc 0);
  output = Some (codes "__i3");
  visible = Some false;
}

-- that workspace with its windows
abbrev pub scratch_view : TreeValue → List Placed → Forest → NodeView
scratch_view t parts windows = roll-NodeView (with_rows t.recency end windows [] (cons t parts (over_floats nowhere) windows) (scratch_space t windows))

-- the output that has that workspace alone
abbrev pub scratch_output : TreeValue → List Placed → Forest → Shown
scratch_output t parts windows = record (outlined 4294967294 (codes "__i3") (codes "__i3_scratch")) {
  focus = 4294967295 ∷ [];
  nodes = scratch_view t parts windows ∷ [];
  urgent = has_urgent t.urgent windows;
  active = Some false;
  primary = Some false;
}

-- the ids of the scratchpad's output, by its windows, and of the outputs by recency
abbrev pub root_focus : List ConId → Forest → Forest → List ℕ
root_focus ids windows outputs = map (λ n. n.1) (put_nodes ((least_place ids windows, 4294967294) ∷ placed_row ids outputs) [])

-- the root over the scratchpad's output and the outputs
abbrev pub root_node : TreeValue → List Placed → Part → Forest → Forest → Shown
root_node t parts part outputs windows = record (plain part.id.0 (codes "root") (codes "root")) {
  focus = root_focus t.recency windows outputs;
  nodes = roll-NodeView (scratch_output t parts windows) ∷ outputs_under t parts true outputs;
  urgent = has_urgent t.urgent outputs || has_urgent t.urgent windows;
}

abbrev pub node_of_root : TreeValue → List Placed → Forest → Shown
node_of_root t parts end = plain 1 (codes "root") (codes "root")
node_of_root t parts (con part kids floats rest) = root_node t parts part kids floats

-- a tree with its arrangement
abbrev pub tree_view : TreeValue → List Placed → NodeView
tree_view t parts = roll-NodeView (node_of_root t parts t.nodes)
