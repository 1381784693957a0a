-- The printed spelling of a batch: keywords in lower case, arguments quoted.
use Rattle.std.specs.Prelude.{ℕ, Bool, true, false, ◌||◌, ◌==◌, if◌then◌else◌, List, [], ◌∷◌, ◌++◌, Option, Some, None, ℤ, codes, decimal}
use Rattle.std.specs.Fmt.{signed_decimal}
use Rattle.wm_base.specs.declared.geometry.Dir.{Dir}
use Rattle.wm_base.specs.declared.geometry.Dir.TheVariants as dirs
use Rattle.wm_base.specs.declared.plan.Border.{Border}
use Rattle.wm_base.specs.declared.plan.Border.TheVariants as borders
use Rattle.wm_language.specs.declared.arguments.SplitArg.{SplitArg}
use Rattle.wm_language.specs.declared.arguments.SplitArg.TheVariants as splits
use Rattle.wm_language.specs.declared.arguments.LayoutArg.{LayoutArg}
use Rattle.wm_language.specs.declared.arguments.LayoutArg.TheVariants as layouts
use Rattle.wm_language.specs.declared.arguments.Cycle.{Cycle}
use Rattle.wm_language.specs.declared.arguments.Cycle.TheVariants as cycles
use Rattle.wm_language.specs.declared.arguments.Kind.{Kind}
use Rattle.wm_language.specs.declared.arguments.Kind.TheVariants as kinds
use Rattle.wm_language.specs.declared.arguments.OnOff.{OnOff}
use Rattle.wm_language.specs.declared.arguments.OnOff.TheVariants as switches
use Rattle.wm_language.specs.declared.arguments.OutArg.{OutArg}
use Rattle.wm_language.specs.declared.arguments.OutArg.TheVariants as outs
use Rattle.wm_language.specs.declared.arguments.Target.{Target}
use Rattle.wm_language.specs.declared.arguments.Target.TheVariants as targets
use Rattle.wm_language.specs.declared.arguments.SwapArg.{SwapArg}
use Rattle.wm_language.specs.declared.arguments.SwapArg.TheVariants as swaps
use Rattle.wm_language.specs.declared.arguments.Side.{Side}
use Rattle.wm_language.specs.declared.arguments.Side.TheVariants as sides
use Rattle.wm_language.specs.declared.arguments.GapOp.{GapOp}
use Rattle.wm_language.specs.declared.arguments.GapOp.TheVariants as ops
use Rattle.wm_language.specs.declared.command.Command.{Command}
use Rattle.wm_language.specs.declared.command.Command.TheVariants as commands
use Rattle.wm_language.specs.declared.batch.Key.{Key}
use Rattle.wm_language.specs.declared.batch.Key.TheVariants as keys
use Rattle.wm_language.specs.declared.batch.Criteria.{Criteria}
use Rattle.wm_language.specs.declared.batch.Group.{Group}
use Rattle.wm_language.specs.declared.batch.Batch.{Batch}

-- ---- quoted texts

-- " or \
abbrev pub is_special : ℕ → Bool
is_special c = (c == 34) || (c == 92)

-- a byte with \ before it where it is " or \
abbrev pub escaped_byte : ℕ → List ℕ
escaped_byte c = if is_special c then 92 ∷ c ∷ [] else c ∷ []

unfoldable pub escaped : List ℕ → List ℕ
escaped [] = []
escaped (c ∷ cs) = escaped_byte c ++ escaped cs

abbrev pub quoted : List ℕ → List ℕ
quoted x = 34 ∷ escaped x ++ 34 ∷ []

-- ---- words

abbrev pub dir_text : Dir → List ℕ
dir_text dirs.Left = codes "left"
dir_text dirs.Right = codes "right"
dir_text dirs.Up = codes "up"
dir_text dirs.Down = codes "down"

abbrev pub split_text : SplitArg → List ℕ
split_text splits.H = codes "split h"
split_text splits.V = codes "split v"
split_text splits.Toggle = codes "split toggle"

abbrev pub layout_text : LayoutArg → List ℕ
layout_text layouts.Default = codes "layout default"
layout_text layouts.SplitH = codes "layout splith"
layout_text layouts.SplitV = codes "layout splitv"
layout_text layouts.Tabbed = codes "layout tabbed"
layout_text layouts.Stacked = codes "layout stacked"

abbrev pub cycle_text : Cycle → List ℕ
cycle_text cycles.Bare = codes "layout toggle"
cycle_text cycles.Split = codes "layout toggle split"
cycle_text cycles.All = codes "layout toggle all"

abbrev pub kind_text : Kind → List ℕ
kind_text kinds.Floating = codes "focus floating"
kind_text kinds.Tiling = codes "focus tiling"
kind_text kinds.Toggle = codes "focus mode_toggle"

abbrev pub switch_text : OnOff → List ℕ
switch_text switches.Enable = codes "enable"
switch_text switches.Disable = codes "disable"
switch_text switches.Toggle = codes "toggle"

abbrev pub side_text : Side → List ℕ
side_text sides.Width = codes "width"
side_text sides.Height = codes "height"
side_text (sides.At d) = dir_text d

abbrev pub op_text : GapOp → List ℕ
op_text ops.Set = codes "set "
op_text ops.Plus = codes "plus "
op_text ops.Minus = codes "minus "

abbrev pub output_text : OutArg → List ℕ
output_text (outs.At d) = dir_text d
output_text outs.Current = codes "current"
output_text outs.Primary = codes "primary"
output_text outs.Next = codes "next"
output_text (outs.Named n) = quoted n

-- the keyword of a workspace that has no name; nothing for any other
abbrev pub target_word : Target → List ℕ
target_word targets.Next = codes "next"
target_word targets.Prev = codes "prev"
target_word targets.NextOnOutput = codes "next_on_output"
target_word targets.PrevOnOutput = codes "prev_on_output"
target_word targets.BackAndForth = codes "back_and_forth"
target_word targets.Current = codes "current"
target_word t = []

abbrev pub target_text : Target → List ℕ
target_text (targets.Number n) = codes "number " ++ quoted n
target_text (targets.Named n) = quoted n
target_text t = target_word t

abbrev pub swap_text : SwapArg → List ℕ
swap_text (swaps.Con n) = codes "con_id " ++ decimal n
swap_text (swaps.Window n) = codes "id " ++ decimal n
swap_text (swaps.Mark m) = codes "mark " ++ quoted m

abbrev pub border_text : Border → List ℕ
border_text (borders.Normal n) = codes "border normal " ++ decimal n
border_text (borders.Pixel n) = codes "border pixel " ++ decimal n
border_text borders.Bare = codes "border none"

abbrev pub mark_text : Bool → Bool → List ℕ
mark_text true true = codes "mark --add --toggle "
mark_text true false = codes "mark --add "
mark_text false true = codes "mark --toggle "
mark_text false false = codes "mark "

abbrev pub grow_text : Bool → List ℕ
grow_text true = codes "resize grow "
grow_text false = codes "resize shrink "

abbrev pub gap_text : Bool → List ℕ
gap_text true = codes "gaps outer "
gap_text false = codes "gaps inner "

abbrev pub scope_text : Bool → List ℕ
scope_text true = codes "all "
scope_text false = codes "current "

-- ---- commands

abbrev pub unmark_text : Option (List ℕ) → List ℕ
unmark_text None = codes "unmark"
unmark_text (Some m) = codes "unmark " ++ quoted m

unfoldable pub renaming_text : List ℕ → List ℕ → List ℕ
renaming_text was name = (codes "rename workspace " ++ quoted was) ++ (codes " to " ++ quoted name)

abbrev pub rename_text : Option (List ℕ) → List ℕ → List ℕ
rename_text None name = codes "rename workspace to " ++ quoted name
rename_text (Some was) name = renaming_text was name

unfoldable pub move_text : Dir → ℕ → List ℕ
move_text d n = (codes "move " ++ dir_text d) ++ (codes " " ++ decimal n ++ codes " px")

unfoldable pub position_text : ℤ → ℤ → List ℕ
position_text x y = (codes "move position " ++ signed_decimal x ++ codes " px") ++ (codes " " ++ signed_decimal y ++ codes " px")

unfoldable pub sides_text : ℕ → ℕ → List ℕ
sides_text w h = (codes "resize set " ++ decimal w ++ codes " px") ++ (codes " " ++ decimal h ++ codes " px")

unfoldable pub resize_text : Bool → Side → ℕ → ℕ → List ℕ
resize_text grow side px ppt = ((grow_text grow ++ side_text side) ++ (codes " " ++ decimal px ++ codes " px or ")) ++ (decimal ppt ++ codes " ppt")

unfoldable pub gaps_text : Bool → Bool → GapOp → ℕ → List ℕ
gaps_text outer all op px = (gap_text outer ++ scope_text all) ++ (op_text op ++ decimal px)

-- the keywords of a command that has no argument; nothing for any other
abbrev pub bare_text : Command → List ℕ
bare_text commands.Focus = codes "focus"
bare_text commands.FocusParent = codes "focus parent"
bare_text commands.FocusChild = codes "focus child"
bare_text commands.MoveToScratchpad = codes "move scratchpad"
bare_text commands.MoveCenter = codes "move position center"
bare_text commands.CycleBorder = codes "border toggle"
bare_text commands.ScratchpadShow = codes "scratchpad show"
bare_text commands.Kill = codes "kill"
bare_text commands.Nop = codes "nop"
bare_text commands.Idle = codes "exec"
bare_text commands.Exit = codes "exit"
bare_text (commands.Split arg) = []
bare_text (commands.SetLayout arg) = []
bare_text (commands.CycleLayout cycle) = []
bare_text (commands.FocusDir d) = []
bare_text (commands.FocusKind kind) = []
bare_text (commands.FocusOutput arg) = []
bare_text (commands.MoveDir d px) = []
bare_text (commands.MoveToWorkspace target) = []
bare_text (commands.MoveToOutput arg) = []
bare_text (commands.MoveWorkspace arg) = []
bare_text (commands.MoveToMark name) = []
bare_text (commands.MovePosition x y) = []
bare_text (commands.Swap arg) = []
bare_text (commands.Resize grow side px ppt) = []
bare_text (commands.ResizeSet w h) = []
bare_text (commands.Floating arg) = []
bare_text (commands.Fullscreen arg) = []
bare_text (commands.SetBorder border) = []
bare_text (commands.Gaps outer all op px) = []
bare_text (commands.Sticky arg) = []
bare_text (commands.Mark add toggle name) = []
bare_text (commands.Unmark name) = []
bare_text (commands.Workspace target) = []
bare_text (commands.Rename was name) = []
bare_text (commands.Mode mode) = []
bare_text (commands.AppendLayout name) = []
bare_text (commands.TitleFormat format) = []

-- a command that gives or takes a name, or one that has no argument
abbrev pub naming_text : Command → List ℕ
naming_text (commands.Mark add toggle name) = mark_text add toggle ++ quoted name
naming_text (commands.Unmark m) = unmark_text m
naming_text (commands.Workspace t) = codes "workspace " ++ target_text t
naming_text (commands.Rename was name) = rename_text was name
naming_text (commands.Mode m) = codes "mode " ++ quoted m
naming_text (commands.AppendLayout l) = codes "append_layout " ++ quoted l
naming_text (commands.TitleFormat t) = codes "title_format " ++ quoted t
naming_text c = bare_text c

-- a command on the looks of a window, or one of those above
abbrev pub window_text : Command → List ℕ
window_text (commands.Resize grow side px ppt) = resize_text grow side px ppt
window_text (commands.ResizeSet w h) = sides_text w h
window_text (commands.Floating a) = codes "floating " ++ switch_text a
window_text (commands.Fullscreen a) = codes "fullscreen " ++ switch_text a
window_text (commands.SetBorder b) = border_text b
window_text (commands.Gaps outer all op px) = gaps_text outer all op px
window_text (commands.Sticky a) = codes "sticky " ++ switch_text a
window_text c = naming_text c

-- a command that moves its subject, or one of those above
abbrev pub moving_text : Command → List ℕ
moving_text (commands.MoveDir d n) = move_text d n
moving_text (commands.MoveToWorkspace t) = codes "move container to workspace " ++ target_text t
moving_text (commands.MoveToOutput o) = codes "move container to output " ++ output_text o
moving_text (commands.MoveWorkspace o) = codes "move workspace to output " ++ output_text o
moving_text (commands.MoveToMark m) = codes "move container to mark " ++ quoted m
moving_text (commands.MovePosition x y) = position_text x y
moving_text c = window_text c

unfoldable pub spelled : Command → List ℕ
spelled (commands.Split a) = split_text a
spelled (commands.SetLayout a) = layout_text a
spelled (commands.CycleLayout a) = cycle_text a
spelled (commands.FocusDir d) = codes "focus " ++ dir_text d
spelled (commands.FocusKind k) = kind_text k
spelled (commands.FocusOutput o) = codes "focus output " ++ output_text o
spelled (commands.Swap a) = codes "swap container with " ++ swap_text a
spelled c = moving_text c

-- ---- keys

-- a key that has a text; nothing for any other
abbrev pub pattern_text : Key → List ℕ
pattern_text (keys.Class x) = codes "class=" ++ quoted x
pattern_text (keys.Instance x) = codes "instance=" ++ quoted x
pattern_text (keys.Role x) = codes "window_role=" ++ quoted x
pattern_text (keys.Kind x) = codes "window_type=" ++ quoted x
pattern_text (keys.Machine x) = codes "machine=" ++ quoted x
pattern_text (keys.Title x) = codes "title=" ++ quoted x
pattern_text (keys.Mark x) = codes "con_mark=" ++ quoted x
pattern_text (keys.Workspace x) = codes "workspace=" ++ quoted x
pattern_text k = []

unfoldable pub key_text : Key → List ℕ
key_text (keys.Id n) = codes "id=" ++ decimal n
key_text (keys.Con None) = codes "con_id=__focused__"
key_text (keys.Con (Some n)) = codes "con_id=" ++ decimal n
key_text (keys.Urgent true) = codes "urgent=latest"
key_text (keys.Urgent false) = codes "urgent=oldest"
key_text keys.Floating = codes "floating"
key_text keys.Tiling = codes "tiling"
key_text keys.All = codes "all"
key_text k = pattern_text k

-- each key and a blank behind it
unfoldable pub keys_text : List Key → List ℕ
keys_text [] = []
keys_text (k ∷ ks) = (key_text k ++ 32 ∷ []) ++ keys_text ks

abbrev pub criteria_text : Option Criteria → List ℕ
criteria_text None = []
criteria_text (Some c) = 91 ∷ keys_text c.keys ++ codes "] "

-- ---- groups

-- each command with , before it
unfoldable pub more_commands_text : List Command → List ℕ
more_commands_text [] = []
more_commands_text (c ∷ cs) = (codes ", " ++ spelled c) ++ more_commands_text cs

-- commands with , between them
unfoldable pub commands_text : List Command → List ℕ
commands_text [] = []
commands_text (c ∷ cs) = spelled c ++ more_commands_text cs

abbrev pub group_text : Group → List ℕ
group_text g = criteria_text g.criteria ++ commands_text g.commands

-- each group with ; before it
unfoldable pub more_groups_text : List Group → List ℕ
more_groups_text [] = []
more_groups_text (g ∷ gs) = (codes "; " ++ group_text g) ++ more_groups_text gs

-- groups with ; between them
unfoldable pub groups_text : List Group → List ℕ
groups_text [] = []
groups_text (g ∷ gs) = group_text g ++ more_groups_text gs

-- the printed spelling of a batch
abbrev pub spelling : Batch → List ℕ
spelling b = groups_text b.groups
