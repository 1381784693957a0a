-- Looking in a forest: depth first, the first node found.
use Rattle.std.specs.Prelude.{ℕ, ◌-◌, Bool, false, ◌==◌, ◌||◌, if◌then◌else◌, List, [], Option, None, Some}
use Rattle.wm_base.specs.declared.ids.ConId.{ConId}
use Rattle.wm_forest.specs.declared.part.Part.{Part}
use Rattle.wm_forest.specs.declared.part.NodeKind.{NodeKind}
use Rattle.wm_forest.specs.declared.part.NodeKind.TheVariants.{Root, Output, Space, Con}
use Rattle.wm_forest.specs.declared.part.OutputPart.{OutputPart}
use Rattle.wm_forest.specs.declared.part.SpacePart.{SpacePart}
use Rattle.wm_forest.specs.declared.part.ConPart.{ConPart}
use Rattle.wm_forest.specs.Forest.{Forest, end, con}

-- two ids are one
abbrev pub same : ConId → ConId → Bool
same a b = a.0 == b.0

-- the forest holds the node c, at any depth
abbrev pub has : ConId → Forest → Bool
has c end = false
has c (con part kids floats rest) = same part.id c || has c kids || has c floats || has c rest

-- the node c with all that is below it, alone; nothing where it is not there
abbrev pub only : ConId → Forest → Forest
only c end = end
only c (con part kids floats rest) =
    if same part.id c then con part kids floats end
    else if has c kids then only c kids
    else if has c floats then only c floats
    else only c rest

-- ---- the first node of a row

abbrev pub first_part : Forest → Option Part
first_part end = None
first_part (con part kids floats rest) = Some part

abbrev pub first_alone : Forest → Forest
first_alone end = end
first_alone (con part kids floats rest) = con part kids floats end

abbrev pub first_kids : Forest → Forest
first_kids end = end
first_kids (con part kids floats rest) = kids

abbrev pub first_floats : Forest → Forest
first_floats end = end
first_floats (con part kids floats rest) = floats

abbrev pub rest_of : Forest → Forest
rest_of end = end
rest_of (con part kids floats rest) = rest

-- the node c stands in the row itself
abbrev pub in_row : ConId → Forest → Bool
in_row c end = false
in_row c (con part kids floats rest) = same part.id c || in_row c rest

-- the row from the node c on; nothing where it is not in the row itself
abbrev pub node_in : ConId → Forest → Forest
node_in c end = end
node_in c (con part kids floats rest) = if same part.id c then con part kids floats rest else node_in c rest

-- the ids of a row's nodes
abbrev pub nth_id : ℕ → Forest → Option ConId
nth_id n end = None
nth_id n (con part kids floats rest) = if n == 0 then Some part.id else nth_id (n - 1) rest

-- ---- what a node is

abbrev pub output_kind : NodeKind → Option OutputPart
output_kind (Root c) = None
output_kind (Output o) = Some o
output_kind (Space s) = None
output_kind (Con c) = None

abbrev pub space_kind : NodeKind → Option SpacePart
space_kind (Root c) = None
space_kind (Output o) = None
space_kind (Space s) = Some s
space_kind (Con c) = None

abbrev pub con_kind : NodeKind → Option ConPart
con_kind (Root c) = None
con_kind (Output o) = None
con_kind (Space s) = None
con_kind (Con c) = Some c

abbrev pub kind_by : {A : Type 0} → (NodeKind → Option A) → Option Part → Option A
kind_by of None = None
kind_by of (Some part) = of part.kind

-- what the node c says of itself as an output, a workspace or a container; None where it is no such node
abbrev pub kind_of : {A : Type 0} → (NodeKind → Option A) → ConId → Forest → Option A
kind_of of c f = kind_by of (first_part (only c f))

-- the first node's marks
abbrev pub first_marks : Forest → List (List ℕ)
first_marks end = []
first_marks (con part kids floats rest) = part.marks
