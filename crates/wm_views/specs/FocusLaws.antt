-- Laws of focus: what the views of nodes list there are the ids of the views below them.
use Rattle.std.specs.Prelude.{ℕ, Bool, List, ◌∷◌, ◌++◌, map}
use Rattle.std.specs.List.Sorted.{IsPermutation}
use Rattle.wm_arrange.specs.declared.parts.Placed.{Placed}
use Rattle.wm_forest.specs.declared.part.OutputPart.{OutputPart}
use Rattle.wm_forest.specs.Forest.{Forest, end}
use Rattle.wm_forest.specs.SoundRow.{containers, outputs, spaces}
use Rattle.wm_json.specs.declared.views.NodeView.{NodeView}
use Rattle.wm_json.specs.declared.views.NodeView.TheViews.{out-NodeView}
use Rattle.wm_tree.specs.TreeValue.{TreeValue}
use Rattle.wm_views.specs.declared.cons.Above.{Above}
use Rattle.wm_views.specs.Nodes.{cons, outputs_under, root_focus, spaces_under}
use Rattle.wm_views.specs.Recency.{focus}
use Rattle.wm_views.specs.Rows.{IsRowAt}

abbrev pub id_of : NodeView → ℕ
id_of v = (out-NodeView v).id

-- of a container or a workspace: its children and its floating windows
abbrev pub FocusIsOfCons : Type 0
FocusIsOfCons =
    (t : TreeValue) (parts : List Placed) (above over : Above) (kids floats : Forest) → IsRowAt containers kids → IsRowAt containers floats
    → IsPermutation (map id_of (cons t parts above kids) ++ map id_of (cons t parts over floats)) (focus t.recency kids floats)

-- of an output: its workspaces
abbrev pub FocusIsOfSpaces : Type 0
FocusIsOfSpaces =
    (t : TreeValue) (parts : List Placed) (o : OutputPart) (row : Forest) → IsRowAt spaces row → IsPermutation (map id_of (spaces_under t parts o row)) (focus t.recency row end)

-- of the root: the scratchpad's output, and the outputs
abbrev pub FocusIsOfOutputs : Type 0
FocusIsOfOutputs =
    (t : TreeValue) (parts : List Placed) (first : Bool) (row windows : Forest) → IsRowAt outputs row
    → IsPermutation (4294967294 ∷ map id_of (outputs_under t parts first row)) (root_focus t.recency windows row)
