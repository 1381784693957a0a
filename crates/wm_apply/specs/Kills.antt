-- The windows that a command asks to close.
use Rattle.std.specs.Prelude.{◌++◌, Bool, true, false, if◌then◌else◌, List, [], ◌∷◌, Option, None, Some, is_some}
use Rattle.std.specs.Option.{option_or}
use Rattle.wm_base.specs.declared.errors.ErrorText.TheVariants as errors
use Rattle.wm_base.specs.declared.errors.Refusal.{Refusal}
use Rattle.wm_base.specs.declared.ids.ConId.{ConId}
use Rattle.wm_language.specs.declared.command.Command.{Command}
use Rattle.wm_language.specs.declared.command.Command.TheVariants as commands
use Rattle.wm_shared.specs.Refusing.{error_if}
use Rattle.wm_shared.specs.Subject.{is_container, is_space}
use Rattle.wm_forest.specs.Change.{is_window_kind}
use Rattle.wm_forest.specs.declared.part.NodeKind.{NodeKind}
use Rattle.wm_forest.specs.declared.part.NodeKind.TheVariants.{Root, Output, Space, Con}
use Rattle.wm_forest.specs.Forest.{Forest, end, con}
use Rattle.wm_forest.specs.Look.{con_kind, first_part, kind_by, same, space_kind}
use Rattle.wm_tree.specs.TreeValue.{TreeValue}

abbrev pub is_kill : Command → Bool
is_kill commands.Kill = true
is_kill other = false

-- a workspace is not asked
abbrev pub kill_refusal : ConId → TreeValue → Option Refusal
kill_refusal c t = error_if (is_space t c) errors.AtWorkspace None

abbrev pub is_window_node : NodeKind → Bool
is_window_node (Root c) = false
is_window_node (Output o) = false
is_window_node (Space s) = false
is_window_node (Con p) = is_window_kind p.kind

abbrev pub node_window : ConId → NodeKind → List ConId
node_window c kind = if is_window_node kind then c ∷ [] else []

-- the windows of a row and below it, depth first
abbrev pub windows_in : Forest → List ConId
windows_in end = []
windows_in (con part kids floats rest) = node_window part.id part.kind ++ (windows_in kids ++ (windows_in floats ++ windows_in rest))

-- the row from the node c on, where it is there
abbrev pub row_at : ConId → Forest → Option Forest
row_at c end = None
row_at c (con part kids floats rest) =
    if same part.id c then Some (con part kids floats rest) else option_or (row_at c kids) (option_or (row_at c floats) (row_at c rest))

-- the windows of a row's first node and below it
abbrev pub first_windows : Forest → List ConId
first_windows end = []
first_windows (con part kids floats rest) = node_window part.id part.kind ++ (windows_in kids ++ windows_in floats)

-- the same where that is a container
abbrev pub con_windows : Forest → List ConId
con_windows row = if is_some (kind_by con_kind (first_part row)) then first_windows row else []

-- the same of a row that is there
abbrev pub asked_from : Option Forest → List ConId
asked_from None = []
asked_from (Some row) = con_windows row

-- a row that is there begins with a workspace
abbrev pub begins_space : Option Forest → Bool
begins_space None = false
begins_space (Some row) = is_some (kind_by space_kind (first_part row))

abbrev pub windows_from : Option Forest → List ConId
windows_from None = []
windows_from (Some row) = first_windows row

-- the windows of a container that is there, and below it
abbrev pub asked_of : ConId → TreeValue → List ConId
asked_of c t = if is_container t c then windows_from (row_at c t.nodes) else []

abbrev pub asked_each : List ConId → TreeValue → List ConId
asked_each [] t = []
asked_each (c ∷ cs) t = asked_of c t ++ asked_each cs t
