-- The scratchpad, and which containers may stand in it.
use Rattle.std.specs.Prelude.{◌≡◌, Bool, true, false, ◌&&◌, is_some}
use Rattle.wm_forest.specs.Change.{is_window_kind}
use Rattle.law_lasting.specs.Flags.{FlagsOnlyWindows}
use Rattle.law_lasting.specs.Rows.{AreStowed}
use Rattle.wm_forest.specs.declared.part.NodeKind.{NodeKind}
use Rattle.wm_forest.specs.declared.part.NodeKind.TheVariants.{Root, Output, Space, Con}
use Rattle.wm_forest.specs.Forest.{Forest, end, con}
use Rattle.wm_forest.specs.Look.{first_floats}
use Rattle.wm_tree.specs.TreeValue.{TreeValue}

-- the scratchpad: the second row of the root
abbrev pub scratchpad : TreeValue → Forest
scratchpad t = first_floats t.nodes

-- each flagged container is a window, and the scratchpad has only flagged containers with an outer rectangle
pub record HasScratchpad (t : TreeValue) : Type 0 where
  pub flags : FlagsOnlyWindows t
  pub row : AreStowed (scratchpad t)

-- a window with the flag and with an outer rectangle
abbrev pub is_hidden_window : NodeKind → Bool
is_hidden_window (Root c) = false
is_hidden_window (Output o) = false
is_hidden_window (Space s) = false
is_hidden_window (Con c) = is_window_kind c.kind && c.state.flagged && is_some c.state.rect

-- each node of the row is one
abbrev pub AreHiddenWindows : Forest → Type 0
AreHiddenWindows end = Unit {0}
AreHiddenWindows (con part kids floats rest) = (is_hidden_window part.kind ≡ true) × AreHiddenWindows rest
