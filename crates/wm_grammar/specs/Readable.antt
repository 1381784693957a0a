-- Which batches some text reads as.
use Rattle.std.specs.Prelude.{◌≡◌, ℕ, ◌<◌, ◌≤◌, false, List, [], ◌∷◌, ◌++◌, length, Option, Some, None, nat_abs}
use Rattle.wm_base.specs.declared.plan.Border.{Border}
use Rattle.wm_base.specs.declared.plan.Border.TheVariants as borders
use Rattle.wm_language.specs.declared.arguments.OutArg.{OutArg}
use Rattle.wm_language.specs.declared.arguments.OutArg.TheVariants as outs
use Rattle.wm_language.specs.declared.arguments.Target.{Target}
use Rattle.wm_language.specs.declared.arguments.Target.TheVariants as targets
use Rattle.wm_language.specs.declared.arguments.SwapArg.{SwapArg}
use Rattle.wm_language.specs.declared.arguments.SwapArg.TheVariants as swaps
use Rattle.wm_language.specs.declared.command.Command.{Command}
use Rattle.wm_language.specs.declared.command.Command.TheVariants as commands
use Rattle.wm_language.specs.declared.batch.Key.{Key}
use Rattle.wm_language.specs.declared.batch.Key.TheVariants as keys
use Rattle.wm_language.specs.declared.batch.Criteria.{Criteria}
use Rattle.wm_language.specs.declared.batch.Group.{Group}
use Rattle.wm_language.specs.declared.batch.Batch.{Batch}
use Rattle.wm_language.specs.Words.{IsArgument}
use Rattle.wm_words.specs.Pieces.{is_nil}
use Rattle.wm_grammar.specs.Criteria.{place_of, has_place}

-- a number of 32 bits
abbrev pub IsNumber : ℕ → Type 0
IsNumber n = n < 4294967296

abbrev pub IsMaybeArgument : Option (List ℕ) → Type 0
IsMaybeArgument None = Unit {0}
IsMaybeArgument (Some x) = IsArgument x

abbrev pub IsMaybeNumber : Option ℕ → Type 0
IsMaybeNumber None = Unit {0}
IsMaybeNumber (Some n) = IsNumber n

abbrev pub IsOutput : OutArg → Type 0
IsOutput (outs.Named n) = IsArgument n
IsOutput o = Unit {0}

-- a workspace to which containers are moved
abbrev pub IsSentTo : Target → Type 0
IsSentTo (targets.Number n) = IsArgument n
IsSentTo (targets.Named n) = IsArgument n
IsSentTo t = Unit {0}

-- a workspace that is shown: the focused one has no keyword there
abbrev pub IsShown : Target → Type 0
IsShown (targets.Number n) = IsArgument n
IsShown (targets.Named n) = IsArgument n
IsShown targets.Current = ⊥
IsShown t = Unit {0}

abbrev pub IsSwap : SwapArg → Type 0
IsSwap (swaps.Con n) = IsNumber n
IsSwap (swaps.Window n) = IsNumber n
IsSwap (swaps.Mark m) = IsArgument m

abbrev pub IsBorder : Border → Type 0
IsBorder (borders.Normal n) = IsNumber n
IsBorder (borders.Pixel n) = IsNumber n
IsBorder borders.Bare = Unit {0}

-- its texts are arguments, and its numbers fit
abbrev pub IsReadableCommand : Command → Type 0
IsReadableCommand (commands.FocusOutput o) = IsOutput o
IsReadableCommand (commands.MoveDir d n) = IsNumber n
IsReadableCommand (commands.MoveToWorkspace t) = IsSentTo t
IsReadableCommand (commands.MoveToOutput o) = IsOutput o
IsReadableCommand (commands.MoveWorkspace o) = IsOutput o
IsReadableCommand (commands.MoveToMark m) = IsArgument m
IsReadableCommand (commands.MovePosition x y) = IsNumber (nat_abs x) × IsNumber (nat_abs y)
IsReadableCommand (commands.Swap a) = IsSwap a
IsReadableCommand (commands.Resize grow side px ppt) = IsNumber px × IsNumber ppt
IsReadableCommand (commands.ResizeSet w h) = IsNumber w × IsNumber h
IsReadableCommand (commands.SetBorder b) = IsBorder b
IsReadableCommand (commands.Gaps outer all op px) = IsNumber px
IsReadableCommand (commands.Mark add toggle name) = IsArgument name
IsReadableCommand (commands.Unmark m) = IsMaybeArgument m
IsReadableCommand (commands.Workspace t) = IsShown t
IsReadableCommand (commands.Rename was name) = IsMaybeArgument was × IsArgument name
IsReadableCommand (commands.Mode m) = IsArgument m
IsReadableCommand (commands.AppendLayout l) = IsArgument l
IsReadableCommand (commands.TitleFormat t) = IsArgument t
IsReadableCommand (commands.Split arg) = Unit {0}
IsReadableCommand (commands.SetLayout arg) = Unit {0}
IsReadableCommand (commands.CycleLayout cycle) = Unit {0}
IsReadableCommand commands.Focus = Unit {0}
IsReadableCommand (commands.FocusDir d) = Unit {0}
IsReadableCommand commands.FocusParent = Unit {0}
IsReadableCommand commands.FocusChild = Unit {0}
IsReadableCommand (commands.FocusKind kind) = Unit {0}
IsReadableCommand commands.MoveToScratchpad = Unit {0}
IsReadableCommand commands.MoveCenter = Unit {0}
IsReadableCommand (commands.Floating arg) = Unit {0}
IsReadableCommand (commands.Fullscreen arg) = Unit {0}
IsReadableCommand commands.CycleBorder = Unit {0}
IsReadableCommand (commands.Sticky arg) = Unit {0}
IsReadableCommand commands.ScratchpadShow = Unit {0}
IsReadableCommand commands.Kill = Unit {0}
IsReadableCommand commands.Nop = Unit {0}
IsReadableCommand commands.Idle = Unit {0}
IsReadableCommand commands.Exit = Unit {0}

abbrev pub IsReadableKey : Key → Type 0
IsReadableKey (keys.Class x) = IsArgument x
IsReadableKey (keys.Instance x) = IsArgument x
IsReadableKey (keys.Role x) = IsArgument x
IsReadableKey (keys.Kind x) = IsArgument x
IsReadableKey (keys.Machine x) = IsArgument x
IsReadableKey (keys.Title x) = IsArgument x
IsReadableKey (keys.Mark x) = IsArgument x
IsReadableKey (keys.Workspace x) = IsArgument x
IsReadableKey (keys.Id n) = IsNumber n
IsReadableKey (keys.Con o) = IsMaybeNumber o
IsReadableKey k = Unit {0}

-- each key has a place that none of those before it has
abbrev pub AreNew : List Key → List Key → Type 0
AreNew seen [] = Unit {0}
AreNew seen (k ∷ ks) = (has_place (place_of k) seen ≡ false) × IsReadableKey k × AreNew (seen ++ k ∷ []) ks

-- one to sixteen keys, each at most once
abbrev pub IsReadableCriteria : Option Criteria → Type 0
IsReadableCriteria None = Unit {0}
IsReadableCriteria (Some c) = (is_nil c.keys ≡ false) × (length c.keys ≤ 16) × AreNew [] c.keys

abbrev pub AreReadableCommands : List Command → Type 0
AreReadableCommands [] = Unit {0}
AreReadableCommands (c ∷ cs) = IsReadableCommand c × AreReadableCommands cs

-- one command or more
abbrev pub IsReadableGroup : Group → Type 0
IsReadableGroup g = IsReadableCriteria g.criteria × (is_nil g.commands ≡ false) × AreReadableCommands g.commands

abbrev pub AreReadableGroups : List Group → Type 0
AreReadableGroups [] = Unit {0}
AreReadableGroups (g ∷ gs) = IsReadableGroup g × AreReadableGroups gs

-- some text reads as the batch
abbrev pub IsReadable : Batch → Type 0
IsReadable b = AreReadableGroups b.groups
