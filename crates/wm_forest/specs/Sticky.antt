-- The sticky nodes of a row, and a node without its sticky floating windows.
use Rattle.std.specs.Prelude.{Bool, false, if◌then◌else◌}
use Rattle.wm_forest.specs.declared.part.NodeKind.{NodeKind}
use Rattle.wm_forest.specs.declared.part.NodeKind.TheVariants.{Root, Output, Space, Con}
use Rattle.wm_forest.specs.declared.part.Part.{Part}
use Rattle.wm_forest.specs.Forest.{Forest, end, con}

-- a container that stays in sight, whatever workspace its output shows
abbrev pub is_sticky : NodeKind → Bool
is_sticky (Root c) = false
is_sticky (Output o) = false
is_sticky (Space s) = false
is_sticky (Con c) = c.state.sticky

-- the sticky nodes of a row, in their order
abbrev pub sticky : Forest → Forest
sticky end = end
sticky (con part kids floats rest) = if is_sticky part.kind then con part kids floats (sticky rest) else sticky rest

-- the other nodes of the row, in their order
abbrev pub loose : Forest → Forest
loose end = end
loose (con part kids floats rest) = if is_sticky part.kind then loose rest else con part kids floats (loose rest)

-- a node without its sticky floating windows
abbrev pub loosened : Forest → Part → Forest → Forest → Forest → Forest
loosened none part kids floats rest = con part kids (loose floats) rest

abbrev pub sticky_in : Part → Forest → Forest → Bool
sticky_in part kids floats = is_sticky part.kind
