-- What floats on workspaces and hides in the scratchpad: windows, each with an outer rectangle within the limits.
use Rattle.std.specs.Prelude.{◌≡◌, true, Option, None, Some}
use Rattle.wm_base.specs.declared.geometry.Rect.{Rect}
use Rattle.law_lasting.specs.Rects.{RectsFit}
use Rattle.wm_forest.specs.Change.{is_window_kind}
use Rattle.wm_forest.specs.declared.part.NodeKind.{NodeKind}
use Rattle.wm_forest.specs.declared.part.NodeKind.TheVariants.{Root, Output, Space, Con}
use Rattle.wm_forest.specs.Forest.{Forest, end, con}
use Rattle.wm_forest.specs.SoundRow.{IsOutputRect}
use Rattle.wm_tree.specs.TreeValue.{TreeValue}

-- there is a rectangle, with a place from -131,072 to 131,071 and sides of at most 16,384
abbrev pub HasFitRect : Option Rect → Type 0
HasFitRect None = ⊥
HasFitRect (Some r) = IsOutputRect r

-- a window with such an outer rectangle
abbrev pub IsAfloat : NodeKind → Type 0
IsAfloat (Root c) = ⊥
IsAfloat (Output o) = ⊥
IsAfloat (Space s) = ⊥
IsAfloat (Con c) = (is_window_kind c.kind ≡ true) × HasFitRect c.state.rect

-- each node of the row is one
abbrev pub AreAfloat : Forest → Type 0
AreAfloat end = Unit {0}
AreAfloat (con part kids floats rest) = IsAfloat part.kind × AreAfloat rest

-- so is each node of the second row of any node: the floating windows of a workspace, and the scratchpad
abbrev pub FloatRows : Forest → Type 0
FloatRows end = Unit {0}
FloatRows (con part kids floats rest) = AreAfloat floats × FloatRows kids × FloatRows floats × FloatRows rest

-- what floats or hides is a window with an outer rectangle within the limits; and a window that is tiled again keeps one
-- within them
pub record WindowsFloat (t : TreeValue) : Type 0 where
  pub rows : FloatRows t.nodes
  pub rects : RectsFit t
