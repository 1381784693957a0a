-- Commands that give windows another border, on many containers at once.
use Rattle.std.specs.Prelude.{ℕ, Bool, true, false, ◌&&◌, nat_lt, if◌then◌else◌, List, [], ◌∷◌, Option, None, Some, is_none}
use Rattle.wm_arrange.specs.Maps.{holds}
use Rattle.wm_base.specs.declared.errors.ErrorText.{ErrorText}
use Rattle.wm_base.specs.declared.errors.ErrorText.TheVariants as errors
use Rattle.wm_base.specs.declared.ids.ConId.{ConId}
use Rattle.wm_base.specs.declared.plan.Border.{Border}
use Rattle.wm_language.specs.declared.command.Command.{Command}
use Rattle.wm_language.specs.declared.command.Command.TheVariants as commands
use Rattle.wm_forest.specs.Change.{is_window_kind}
use Rattle.wm_forest.specs.declared.part.ConPart.{ConPart}
use Rattle.wm_forest.specs.declared.part.ConState.{ConState}
use Rattle.wm_forest.specs.declared.part.NodeKind.{NodeKind}
use Rattle.wm_forest.specs.declared.part.NodeKind.TheVariants.{Root, Output, Space, Con}
use Rattle.wm_forest.specs.declared.part.Part.{Part}
use Rattle.wm_forest.specs.Each.{mapped}
use Rattle.wm_forest.specs.Forest.{Forest}
use Rattle.wm_forest.specs.Look.{first_part, only}
use Rattle.wm_forest.specs.Recency.{lists}
use Rattle.wm_sizes.specs.Borders.{is_wide, next_border}
use Rattle.wm_tree.specs.States.{part_restated}
use Rattle.wm_tree.specs.TreeValue.{TreeValue}
use Rattle.wm_apply.specs.declared.borders.BorderChange.{BorderChange}
use Rattle.wm_apply.specs.declared.borders.BorderChange.TheVariants.{To, Next}
use Rattle.wm_apply.specs.Kills.{is_window_node}
use Rattle.wm_apply.specs.Subjects.{or_error}

-- the command that makes the change
abbrev pub command_of : BorderChange → Command
command_of (To border) = commands.SetBorder border
command_of Next = commands.CycleBorder

-- the command gives windows another border
abbrev pub gives_border : Command → Bool
gives_border (commands.SetBorder border) = true
gives_border commands.CycleBorder = true
gives_border other = false

abbrev pub border_after : BorderChange → Border → Border
border_after (To border) was = border
border_after Next was = next_border was

-- the windows listed have another border
abbrev pub state_after : BorderChange → List ConId → ConId → ConPart → ConState
state_after change cs id con =
    if is_window_kind con.kind && lists id cs then record con.state { border = border_after change con.state.border } else con.state

-- the same where a map lists them
abbrev pub restyled : {A : Type 0} → BorderChange → List (ℕ × A) → ConId → ConPart → ConState
restyled change map id con =
    if is_window_kind con.kind && holds map id then record con.state { border = border_after change con.state.border } else con.state

-- the tree in which the windows listed have changed their borders
abbrev pub bordered : BorderChange → List ConId → TreeValue → TreeValue
bordered change cs t = record t { nodes = mapped (part_restated (state_after change cs)) t.nodes }

-- ---- errors

-- why the change is refused on windows: the border is too wide
abbrev pub change_error : BorderChange → Option ErrorText
change_error (To border) = if is_wide border then Some errors.OutOfRange else None
change_error Next = None

abbrev pub node_error : BorderChange → NodeKind → Option ErrorText
node_error change (Root c) = None
node_error change (Output o) = None
node_error change (Space s) = Some errors.AtWorkspace
node_error change (Con c) = if is_window_kind c.kind then change_error change else Some errors.NotWindow

-- why the change is refused on what a node is; what is gone refuses nothing
abbrev pub part_error : BorderChange → Option Part → Option ErrorText
part_error change None = None
part_error change (Some part) = node_error change part.kind

-- a window that the change is made to
abbrev pub takes : BorderChange → Option Part → Bool
takes change None = false
takes change (Some part) = is_window_node part.kind && is_none (change_error change)

abbrev pub part_at : Option Forest → Option Part
part_at None = None
part_at (Some row) = first_part row

-- what the node c is
abbrev pub part_of : ConId → TreeValue → Option Part
part_of c t = first_part (only c t.nodes)

-- the first of the errors
abbrev pub first_error : BorderChange → List ConId → TreeValue → Option ErrorText
first_error change [] t = None
first_error change (c ∷ cs) t = or_error (part_error change (part_of c t)) (first_error change cs t)

-- the error so far, or else the first of those before one takes the change
abbrev pub refused_before : BorderChange → List ConId → TreeValue → Option ErrorText → Option ErrorText
refused_before change [] t first = first
refused_before change (c ∷ cs) t first =
    if takes change (part_of c t) then first else refused_before change cs t (or_error first (part_error change (part_of c t)))

-- the first that takes the change, and those behind it
abbrev pub takers : BorderChange → List ConId → TreeValue → List ConId
takers change [] t = []
takers change (c ∷ cs) t = if takes change (part_of c t) then c ∷ cs else takers change cs t

-- the first of these takes the change, where there is one
abbrev pub begins : BorderChange → List ConId → TreeValue → Bool
begins change [] t = true
begins change (c ∷ cs) t = takes change (part_of c t)

-- the ids rise, so that none is there twice
abbrev pub climbs : List ConId → Bool
climbs [] = true
climbs (c ∷ []) = true
climbs (c ∷ d ∷ cs) = nat_lt c.0 d.0 && climbs (d ∷ cs)
