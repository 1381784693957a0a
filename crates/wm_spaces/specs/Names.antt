-- Outputs and workspaces by their names.
use Rattle.std.specs.Prelude.{ℕ, Bool, false, ◌&&◌, ◌||◌, ◌==◌, not, if◌then◌else◌, List, [], ◌∷◌, Option, None, Some}
use Rattle.std.specs.Option.{option_or}
use Rattle.std.specs.Str.{bytes_eq}
use Rattle.wm_base.specs.declared.ids.ConId.{ConId}
use Rattle.wm_forest.specs.declared.part.OutputPart.{OutputPart}
use Rattle.wm_forest.specs.declared.part.SpacePart.{SpacePart}
use Rattle.wm_forest.specs.Forest.{Forest, end, con}
use Rattle.wm_forest.specs.Look.{first_kids, output_kind, same, space_kind}
use Rattle.wm_tree.specs.TreeValue.{TreeValue}

abbrev pub output_called : List ℕ → Option OutputPart → Bool
output_called n None = false
output_called n (Some o) = bytes_eq o.name n

-- the first output of a row that has the name
abbrev pub output_in_row : List ℕ → Forest → Option ConId
output_in_row n end = None
output_in_row n (con part kids floats rest) = if output_called n (output_kind part.kind) then Some part.id else output_in_row n rest

-- the output of this name
abbrev pub output_named : List ℕ → TreeValue → Option ConId
output_named n t = output_in_row n (first_kids t.nodes)

abbrev pub space_called : List ℕ → Option SpacePart → Bool
space_called n None = false
space_called n (Some s) = bytes_eq s.name n

-- the first workspace of a row that has the name
abbrev pub space_in_row : List ℕ → Forest → Option ConId
space_in_row n end = None
space_in_row n (con part kids floats rest) = if space_called n (space_kind part.kind) then Some part.id else space_in_row n rest

-- the first workspace on a row of outputs that has the name
abbrev pub space_on : List ℕ → Forest → Option ConId
space_on n end = None
space_on n (con part kids floats rest) = option_or (space_in_row n kids) (space_on n rest)

-- the workspace of this name
abbrev pub space_named : List ℕ → TreeValue → Option ConId
space_named n t = space_on n (first_kids t.nodes)

-- a workspace of the row other than w has the name
abbrev pub other_in_row : ConId → List ℕ → Forest → Bool
other_in_row w n end = false
other_in_row w n (con part kids floats rest) = (not (same part.id w) && space_called n (space_kind part.kind)) || other_in_row w n rest

-- a workspace on the row of outputs other than w has the name
abbrev pub other_on : ConId → List ℕ → Forest → Bool
other_on w n end = false
other_on w n (con part kids floats rest) = other_in_row w n kids || other_on w n rest

-- another workspace than w has the name
abbrev pub other_has : ConId → List ℕ → TreeValue → Bool
other_has w n t = other_on w n (first_kids t.nodes)

-- names that begin with `__` are kept for the scratchpad's workspace
abbrev pub is_reserved : List ℕ → Bool
is_reserved [] = false
is_reserved (a ∷ []) = false
is_reserved (a ∷ b ∷ rest) = a == 95 && b == 95
