-- Sound trees: their workspaces and outputs.
use Rattle.std.proofs.Common.{◌≡◌, ◌∙◌, ap, sym, append-nil, append_assoc, ◌≤◌, List, [], ◌++◌, None, true, arith}
use Rattle.wm_base.specs.declared.ids.ConId.{ConId}
use Rattle.wm_forest.specs.declared.part.NodeKind.{NodeKind}
use Rattle.wm_forest.specs.declared.part.NodeKind.TheVariants.{Root, Output, Space, Con}
use Rattle.wm_forest.specs.Counts.{row_length}
use Rattle.wm_forest.specs.Forest.{Forest, end, con}
use Rattle.wm_forest.specs.Look.{first_floats, first_kids, first_part, kind_by, node_in, output_kind, rest_of}
use Rattle.wm_forest.specs.SoundRow.{IsNode, IsSoundRow, outputs, spaces}
use Rattle.wm_forest.specs.Spot.{room_below}
use Rattle.wm_tree.proofs.RaiseLemmas.{sound_node_in}
use Rattle.wm_tree.specs.TreeValue.{TreeValue}
use Rattle.wm_arrange.specs.declared.parts.Placed.{Placed}
use Rattle.wm_arrange.specs.Arranged.{output_parts, outputs_parts}
use Rattle.wm_arrange.specs.Slots.{IsFloatRow, IsTiledRow}

-- the workspaces of an output are sound, from each of them on
pub output_spaces : (shown : ConId) (row : Forest) → IsSoundRow outputs true 32 row → IsSoundRow spaces true 32 (node_in shown (first_kids row))
output_spaces shown end s = tt
output_spaces shown (con part kids floats rest) s = by_kind part.kind s.0 s.2
  where
    by_kind : (kind : NodeKind) → IsNode outputs true 32 part.id kind part.marks kids → IsSoundRow spaces true (room_below 32 kind) kids → IsSoundRow spaces true 32 (node_in shown kids)
    by_kind (Root c) n k = absurd n
    by_kind (Output o) n k = sound_node_in shown spaces true 32 kids k
    by_kind (Space w) n k = absurd n
    by_kind (Con c) n k = absurd n

-- the children of a workspace are a row of tiled containers
pub space_kids : (row : Forest) → IsSoundRow spaces true 32 row → IsTiledRow (first_kids row) × (row_length (first_kids row) ≤ 256)
space_kids end s = ((0, tt), omega arith)
space_kids (con part kids floats rest) s = ((room_below 32 part.kind, s.2), s.1)

-- so are its floating windows one of containers
pub space_floats : (row : Forest) → IsSoundRow spaces true 32 row → IsFloatRow (first_floats row)
space_floats end s = (0, tt)
space_floats (con part kids floats rest) s = (room_below 32 part.kind, s.3)

pub tiled_kids : (row : Forest) → IsTiledRow row → row_length (first_kids row) ≤ 256
tiled_kids end s = omega arith
tiled_kids (con part kids floats rest) (room, s) = s.1

pub tiled_rest : (row : Forest) → IsTiledRow row → IsTiledRow (rest_of row)
tiled_rest end s = s
tiled_rest (con part kids floats rest) (room, s) = (room, s.4)

pub float_kids : (row : Forest) → IsFloatRow row → row_length (first_kids row) ≤ 256
float_kids end s = omega arith
float_kids (con part kids floats rest) (room, s) = s.1

pub float_rest : (row : Forest) → IsFloatRow row → IsFloatRow (rest_of row)
float_rest end s = s
float_rest (con part kids floats rest) (room, s) = (room, s.4)

-- ---- rows of outputs

-- behind the last output there are no parts
pub at_end : (parts all : List Placed) (t : TreeValue) (c : ConId) (row : Forest) → first_part row ≡ None → parts ++ outputs_parts t c row ≡ all → parts ≡ all
at_end parts all t c end h e = sym (append-nil parts) ∙ e
at_end parts all t c (con part kids floats rest) h e = cc

-- the parts of an output, and of those behind it
pub outputs_on : (t : TreeValue) (c : ConId) (row rest : Forest) (old new all : List Placed) → new ≡ old ++ output_parts t c (kind_by output_kind (first_part row)) (first_kids row) → rest ≡ rest_of row
    → old ++ outputs_parts t c row ≡ all → new ++ outputs_parts t c rest ≡ all
outputs_on t c end rest old new all e f g = rw (e, f) (ap (λ z. z ++ []) (append-nil old) ∙ g)
outputs_on t c (con part kids floats behind) rest old new all e f g = rw (e, f) (append_assoc old (output_parts t c (output_kind part.kind) kids) (outputs_parts t c behind) ∙ g)

pub outputs_behind : (row : Forest) → IsSoundRow outputs true 32 row → IsSoundRow outputs true 32 (rest_of row)
outputs_behind end s = s
outputs_behind (con part kids floats rest) s = s.4
