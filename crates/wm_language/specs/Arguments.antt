-- The keywords that stand for directions, layouts, outputs, workspaces and the like.
use Rattle.std.specs.Prelude.{ℕ, Bool, true, false, List, ◌∷◌, codes}
use Rattle.wm_base.specs.declared.geometry.Dir.{Dir}
use Rattle.wm_base.specs.declared.geometry.Dir.TheVariants as dirs
use Rattle.wm_language.specs.declared.arguments.SplitArg.{SplitArg}
use Rattle.wm_language.specs.declared.arguments.SplitArg.TheVariants as splits
use Rattle.wm_language.specs.declared.arguments.LayoutArg.{LayoutArg}
use Rattle.wm_language.specs.declared.arguments.LayoutArg.TheVariants as layouts
use Rattle.wm_language.specs.declared.arguments.Kind.{Kind}
use Rattle.wm_language.specs.declared.arguments.Kind.TheVariants as kinds
use Rattle.wm_language.specs.declared.arguments.OnOff.{OnOff}
use Rattle.wm_language.specs.declared.arguments.OnOff.TheVariants as switches
use Rattle.wm_language.specs.declared.arguments.OutArg.{OutArg}
use Rattle.wm_language.specs.declared.arguments.OutArg.TheVariants as outs
use Rattle.wm_language.specs.declared.arguments.Target.{Target}
use Rattle.wm_language.specs.declared.arguments.Target.TheVariants as targets
use Rattle.wm_language.specs.declared.arguments.Side.{Side}
use Rattle.wm_language.specs.declared.arguments.Side.TheVariants as sides
use Rattle.wm_language.specs.declared.arguments.GapOp.{GapOp}
use Rattle.wm_language.specs.declared.arguments.GapOp.TheVariants as ops
use Rattle.wm_language.specs.Slots.{Slot, said, Optional}

-- a direction
abbrev pub direction_word : Dir → List ℕ
direction_word dirs.Left = codes "left"
direction_word dirs.Right = codes "right"
direction_word dirs.Up = codes "up"
direction_word dirs.Down = codes "down"

-- how `split` lays out: side by side, one above another, or the other of the two
pub data SplitWord : List ℕ → SplitArg → Type 0 where
  split_h : SplitWord (codes "h") splits.H
  split_horizontal : SplitWord (codes "horizontal") splits.H
  split_v : SplitWord (codes "v") splits.V
  split_vertical : SplitWord (codes "vertical") splits.V
  split_t : SplitWord (codes "t") splits.Toggle
  split_toggle : SplitWord (codes "toggle") splits.Toggle

-- a layout that is set
pub data LayoutWord : List ℕ → LayoutArg → Type 0 where
  layout_default : LayoutWord (codes "default") layouts.Default
  layout_splith : LayoutWord (codes "splith") layouts.SplitH
  layout_splitv : LayoutWord (codes "splitv") layouts.SplitV
  layout_tabbed : LayoutWord (codes "tabbed") layouts.Tabbed
  layout_stacking : LayoutWord (codes "stacking") layouts.Stacked
  layout_stacked : LayoutWord (codes "stacked") layouts.Stacked

-- which container of the workspace is focused
abbrev pub kind_word : Kind → List ℕ
kind_word kinds.Floating = codes "floating"
kind_word kinds.Tiling = codes "tiling"
kind_word kinds.Toggle = codes "mode_toggle"

-- a property is put on, taken off or changed
abbrev pub switch_word : OnOff → List ℕ
switch_word switches.Enable = codes "enable"
switch_word switches.Disable = codes "disable"
switch_word switches.Toggle = codes "toggle"

-- the side at which a window grows or shrinks
abbrev pub side_word : Side → List ℕ
side_word sides.Width = codes "width"
side_word sides.Height = codes "height"
side_word (sides.At d) = direction_word d

-- true is to grow
abbrev pub grow_word : Bool → List ℕ
grow_word true = codes "grow"
grow_word false = codes "shrink"

-- which gaps: true is those at the edges of the output
abbrev pub gaps_word : Bool → List ℕ
gaps_word true = codes "outer"
gaps_word false = codes "inner"

-- on which workspaces: true is all
abbrev pub scope_word : Bool → List ℕ
scope_word true = codes "all"
scope_word false = codes "current"

-- how a gap is changed
abbrev pub change_word : GapOp → List ℕ
change_word ops.Set = codes "set"
change_word ops.Plus = codes "plus"
change_word ops.Minus = codes "minus"

-- an output that a keyword tells
pub data OutputWord : List ℕ → OutArg → Type 0 where
  output_at : (d : Dir) → OutputWord (direction_word d) (outs.At d)
  output_current : OutputWord (codes "current") outs.Current
  output_primary : OutputWord (codes "primary") outs.Primary
  output_next : OutputWord (codes "next") outs.Next

-- a workspace that a keyword tells
pub data TargetWord : List ℕ → Target → Type 0 where
  target_next : TargetWord (codes "next") targets.Next
  target_prev : TargetWord (codes "prev") targets.Prev
  target_next_on_output : TargetWord (codes "next_on_output") targets.NextOnOutput
  target_prev_on_output : TargetWord (codes "prev_on_output") targets.PrevOnOutput
  target_back_and_forth : TargetWord (codes "back_and_forth") targets.BackAndForth

-- what is read and not done: starting programs, and the configuration
pub data IdleWord : List ℕ → Type 0 where
  idle_exec : IdleWord (codes "exec")
  idle_open : IdleWord (codes "open")
  idle_reload : IdleWord (codes "reload")
  idle_restart : IdleWord (codes "restart")

-- the words `container` or `window`, and `to`, all of which may be left out
pub data To : List Slot → Type 0 where
  to_alone : {to : List Slot} → Optional (codes "to") to → To to
  to_container : {to : List Slot} → Optional (codes "to") to → To (said (codes "container") ∷ to)
  to_window : {to : List Slot} → Optional (codes "to") to → To (said (codes "window") ∷ to)
