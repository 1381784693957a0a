-- The axis of a layout and of a direction, and the neighbours in a row.
use Rattle.std.specs.Prelude.{Bool, true, false, if◌then◌else◌, Option, None, Some}
use Rattle.std.specs.Option.{option_or}
use Rattle.wm_base.specs.declared.geometry.Axis.{Axis}
use Rattle.wm_base.specs.declared.geometry.Axis.TheVariants as axes
use Rattle.wm_base.specs.declared.geometry.Dir.{Dir}
use Rattle.wm_base.specs.declared.geometry.Dir.TheVariants.{Left, Right, Up, Down}
use Rattle.wm_base.specs.declared.ids.ConId.{ConId}
use Rattle.wm_base.specs.declared.plan.Layout.{Layout}
use Rattle.wm_base.specs.declared.plan.Layout.TheVariants.{SplitH, SplitV, Stacked, Tabbed}
use Rattle.wm_forest.specs.declared.part.ConKind.{ConKind}
use Rattle.wm_forest.specs.declared.part.ConKind.TheVariants.{Split, Window, Placeholder}
use Rattle.wm_forest.specs.declared.part.NodeKind.{NodeKind}
use Rattle.wm_forest.specs.declared.part.NodeKind.TheVariants.{Root, Output, Space, Con}
use Rattle.wm_forest.specs.Change.{is_id}
use Rattle.wm_forest.specs.Forest.{Forest, end, con}
use Rattle.wm_forest.specs.Look.{same}

-- ---- axes

-- the axis along which a layout puts its children
abbrev pub axis_of : Layout → Axis
axis_of SplitH = axes.Across
axis_of SplitV = axes.Down
axis_of Tabbed = axes.Across
axis_of Stacked = axes.Down

abbrev pub dir_axis : Dir → Axis
dir_axis Left = axes.Across
dir_axis Right = axes.Across
dir_axis Up = axes.Down
dir_axis Down = axes.Down

abbrev pub same_axis : Axis → Axis → Bool
same_axis axes.Across axes.Across = true
same_axis axes.Across axes.Down = false
same_axis axes.Down axes.Across = false
same_axis axes.Down axes.Down = true

abbrev pub runs_con : Axis → ConKind → Bool
runs_con a (Split layout last) = same_axis (axis_of layout) a
runs_con a (Window props owner natural) = false
runs_con a (Placeholder props swallows) = false

-- a workspace or split puts its children along the axis
abbrev pub runs : Axis → NodeKind → Bool
runs a (Root c) = false
runs a (Output o) = false
runs a (Space s) = same_axis (axis_of s.layout) a
runs a (Con c) = runs_con a c.kind

-- the direction is towards the end of a row: right or down
abbrev pub is_forward : Dir → Bool
is_forward Left = false
is_forward Right = true
is_forward Up = false
is_forward Down = true

-- ---- rows

abbrev pub first_id : Forest → Option ConId
first_id end = None
first_id (con part kids floats rest) = Some part.id

abbrev pub last_id : Forest → Option ConId
last_id end = None
last_id (con part kids floats rest) = option_or (last_id rest) (Some part.id)

-- the node after c in the row
abbrev pub after : ConId → Forest → Option ConId
after c end = None
after c (con part kids floats rest) = if same part.id c then first_id rest else after c rest

-- the node before c in the row
abbrev pub before : ConId → Forest → Option ConId
before c end = None
before c (con part kids floats rest) = if is_id c (first_id rest) then Some part.id else before c rest

-- the neighbour of c on that side
abbrev pub neighbour : Dir → ConId → Forest → Option ConId
neighbour d c row = if is_forward d then after c row else before c row
