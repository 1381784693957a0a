-- Outputs as the list of outputs shows them.
use Rattle.std.specs.Prelude.{ℕ, Bool, true, false, if◌then◌else◌, List, [], ◌∷◌, ◌++◌, Option, None, Some}
use Rattle.wm_base.specs.declared.ids.ConId.{ConId}
use Rattle.wm_forest.specs.declared.part.OutputPart.{OutputPart}
use Rattle.wm_forest.specs.declared.part.SpacePart.{SpacePart}
use Rattle.wm_forest.specs.Forest.{Forest, end, con}
use Rattle.wm_forest.specs.Look.{first_kids, output_kind, same, space_kind}
use Rattle.wm_json.specs.declared.views.OutputView.{OutputView}
use Rattle.wm_tree.specs.TreeValue.{TreeValue}

-- a workspace's name; other nodes have none
abbrev pub space_name : Option SpacePart → List ℕ
space_name None = []
space_name (Some s) = s.name

-- the name of the workspace c in a row of workspaces
abbrev pub name_in : ConId → Forest → List ℕ
name_in c end = []
name_in c (con part kids floats rest) = if same part.id c then space_name (space_kind part.kind) else name_in c rest

-- an output with its row of workspaces; the first output is the primary one
abbrev pub output_view : Bool → OutputPart → Forest → OutputView
output_view first o spaces = record { active = true; current_workspace = name_in o.shown spaces; name = o.name; primary = first; rect = o.rect }

-- the view of a node, where it is an output
abbrev pub output_views : Bool → Option OutputPart → Forest → List OutputView
output_views first None spaces = []
output_views first (Some o) spaces = output_view first o spaces ∷ []

-- the outputs of a row in order
abbrev pub outputs_from : Bool → Forest → List OutputView
outputs_from first end = []
outputs_from first (con part kids floats rest) = output_views first (output_kind part.kind) kids ++ outputs_from false rest

-- the outputs of a tree in order
abbrev pub outputs_view : TreeValue → List OutputView
outputs_view t = outputs_from true (first_kids t.nodes)
