-- Whether the outputs of two trees differ.
use Rattle.std.specs.Prelude.{◌==◌, Bool, true, false, ◌&&◌, ◌||◌, not, Option, None, Some}
use Rattle.wm_arrange.specs.Same.{same_rect}
use Rattle.wm_base.specs.declared.geometry.Edges.{Edges}
use Rattle.wm_base.specs.declared.ids.ConId.{ConId}
use Rattle.wm_forest.specs.declared.part.OutputPart.{OutputPart}
use Rattle.wm_forest.specs.Forest.{Forest, end, con}
use Rattle.wm_forest.specs.Look.{first_kids, output_kind, same}
use Rattle.wm_tree.specs.TreeValue.{TreeValue}

abbrev pub same_edges : Edges → Edges → Bool
same_edges a b = a.top == b.top && (a.right == b.right && (a.bottom == b.bottom && a.left == b.left))

-- a node of the row is this output with the same rectangle and the same reserved edges
abbrev pub is_output : ConId → OutputPart → ConId → Option OutputPart → Bool
is_output c o id None = false
is_output c o id (Some p) = same id c && (same_rect p.rect o.rect && same_edges p.reserved o.reserved)

abbrev pub has_output : ConId → OutputPart → Forest → Bool
has_output c o end = false
has_output c o (con part kids floats rest) = is_output c o part.id (output_kind part.kind) || has_output c o rest

-- the node is no output, or the row has it as it is
abbrev pub is_kept : ConId → Option OutputPart → Forest → Bool
is_kept c None row = true
is_kept c (Some o) row = has_output c o row

-- each output of a row stands in the other one as it is
abbrev pub are_kept : Forest → Forest → Bool
are_kept end row = true
are_kept (con part kids floats rest) row = is_kept part.id (output_kind part.kind) row && are_kept rest row

-- an output is new, gone, or has another rectangle or other reserved edges
abbrev pub outputs_differ : TreeValue → TreeValue → Bool
outputs_differ t u = not (are_kept (first_kids t.nodes) (first_kids u.nodes) && are_kept (first_kids u.nodes) (first_kids t.nodes))
