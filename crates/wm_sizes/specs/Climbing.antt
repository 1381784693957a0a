-- Climbing from a container to the nearest node above it whose children stand along an axis.
use Rattle.std.specs.Prelude.{Bool, ◌&&◌, not, if◌then◌else◌, Option, None, Some, option_and_then}
use Rattle.std.specs.Option.{option_or}
use Rattle.wm_base.specs.declared.geometry.Axis.{Axis}
use Rattle.wm_base.specs.declared.geometry.Axis.TheVariants as axes
use Rattle.wm_base.specs.declared.ids.ConId.{ConId}
use Rattle.wm_shared.specs.Neighbours.{dir_axis}
pub use Rattle.wm_shared.specs.Neighbours.{runs, runs_con}
use Rattle.wm_language.specs.declared.arguments.Side.{Side}
use Rattle.wm_language.specs.declared.arguments.Side.TheVariants.{Width, Height, At}
use Rattle.wm_sizes.specs.declared.climbing.Climbed.{Climbed}
use Rattle.wm_sizes.specs.declared.climbing.Rung.{Rung}
use Rattle.wm_forest.specs.declared.part.Part.{Part}
use Rattle.wm_forest.specs.Change.{is_end}
use Rattle.wm_forest.specs.Forest.{Forest, end, con}
use Rattle.wm_forest.specs.Look.{rest_of, same}
use Rattle.wm_tree.specs.TreeValue.{TreeValue}

-- the axis along which a side moves
abbrev pub side_axis : Side → Axis
side_axis Width = axes.Across
side_axis Height = axes.Down
side_axis (At d) = dir_axis d

-- the row has two or more nodes
abbrev pub has_two : Forest → Bool
has_two row = not (is_end (rest_of row))

-- a node with two or more children along the axis, one of which is a container or holds it
abbrev pub rung_at : Axis → Part → Forest → ConId → Option Rung
rung_at a part kids node = if runs a part.kind && has_two kids then Some (record { parent = part.id; node = node }) else None

abbrev pub up_kids : Axis → Part → Forest → Option Climbed → Option Climbed
up_kids a part kids None = None
up_kids a part kids (Some x) = Some (record { child = part.id; rung = option_or x.rung (rung_at a part kids x.child) })

abbrev pub up_floats : Part → Option Climbed → Option Climbed
up_floats part None = None
up_floats part (Some x) = Some (record { child = part.id; rung = x.rung })

-- the node of the row that is c or holds it, and the nearest rung above c; None where c is not there
abbrev pub climb : Axis → ConId → Forest → Option Climbed
climb a c end = None
climb a c (con part kids floats rest) =
    if same part.id c then Some (record { child = c; rung = None })
    else option_or (up_kids a part kids (climb a c kids)) (option_or (up_floats part (climb a c floats)) (climb a c rest))

-- climbing from c, the first node whose parent has the axis and two or more children, and that parent
abbrev pub rung_of : Axis → ConId → TreeValue → Option Rung
rung_of a c t = option_and_then (λ (x : Climbed). x.rung) (climb a c t.nodes)
