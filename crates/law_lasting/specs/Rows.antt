-- Rows of containers that may stand in the scratchpad.
use Rattle.std.specs.Prelude.{◌≡◌, Bool, true, false, ◌&&◌, is_some}
use Rattle.wm_forest.specs.declared.part.NodeKind.{NodeKind}
use Rattle.wm_forest.specs.declared.part.NodeKind.TheVariants.{Root, Output, Space, Con}
use Rattle.wm_forest.specs.Forest.{Forest, end, con}

-- a container with the flag and with an outer rectangle
abbrev pub is_stowed : NodeKind → Bool
is_stowed (Root c) = false
is_stowed (Output o) = false
is_stowed (Space s) = false
is_stowed (Con c) = c.state.flagged && is_some c.state.rect

-- each node of the row is one
abbrev pub AreStowed : Forest → Type 0
AreStowed end = Unit {0}
AreStowed (con part kids floats rest) = (is_stowed part.kind ≡ true) × AreStowed rest
