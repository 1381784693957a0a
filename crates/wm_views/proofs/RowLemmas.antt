-- Rows of sound trees: what is below their nodes, and what is behind them.
use Rattle.std.proofs.Common.{true, false, arith}
use Rattle.wm_forest.specs.Forest.{Forest, end, con}
use Rattle.wm_forest.specs.Look.{first_floats, first_kids, rest_of}
use Rattle.wm_forest.specs.SoundRow.{IsSoundRow, containers, outputs, roots, spaces}
use Rattle.wm_forest.specs.Spot.{room_below}
use Rattle.wm_tree.specs.Sound.{IsSound}
use Rattle.wm_tree.specs.TreeValue.{TreeValue}
use Rattle.wm_views.specs.Rows.{IsKids, IsRowAt}

-- the children of a container or of a workspace
pub con_kids : (row : Forest) → IsRowAt containers row → IsKids (first_kids row)
con_kids end s = record { few = omega arith; room = 0; sound = tt }
con_kids (con part kids floats rest) s = record { few = s.sound.1; room = room_below s.room part.kind; sound = s.sound.2 }

pub space_kids : (row : Forest) → IsRowAt spaces row → IsKids (first_kids row)
space_kids end s = record { few = omega arith; room = 0; sound = tt }
space_kids (con part kids floats rest) s = record { few = s.sound.1; room = room_below s.room part.kind; sound = s.sound.2 }

pub kids_row : (row : Forest) → IsKids row → IsRowAt containers row
kids_row row s = record { tiled = true; room = s.room; sound = s.sound }

-- the floating windows of a workspace
pub space_floats : (row : Forest) → IsRowAt spaces row → IsRowAt containers (first_floats row)
space_floats end s = record { tiled = false; room = 0; sound = tt }
space_floats (con part kids floats rest) s = record { tiled = false; room = room_below s.room part.kind; sound = s.sound.3 }

-- the workspaces of an output
pub output_kids : (row : Forest) → IsRowAt outputs row → IsRowAt spaces (first_kids row)
output_kids end s = record { tiled = true; room = 0; sound = tt }
output_kids (con part kids floats rest) s = record { tiled = true; room = room_below s.room part.kind; sound = s.sound.2 }

-- the outputs of a tree, and its scratchpad
pub tree_outputs : (t : TreeValue) → IsSound t → IsRowAt outputs (first_kids t.nodes)
tree_outputs t s = by_nodes t.nodes s.shaped
  where
    by_nodes : (row : Forest) → IsSoundRow roots false 0 row → IsRowAt outputs (first_kids row)
    by_nodes end s = record { tiled = true; room = 0; sound = tt }
    by_nodes (con part kids floats rest) s = record { tiled = true; room = room_below 0 part.kind; sound = s.2 }

pub tree_scratchpad : (t : TreeValue) → IsSound t → IsRowAt containers (first_floats t.nodes)
tree_scratchpad t s = by_nodes t.nodes s.shaped
  where
    by_nodes : (row : Forest) → IsSoundRow roots false 0 row → IsRowAt containers (first_floats row)
    by_nodes end s = record { tiled = false; room = 0; sound = tt }
    by_nodes (con part kids floats rest) s = record { tiled = false; room = room_below 0 part.kind; sound = s.3 }

-- the row behind a node
pub con_rest : (row : Forest) → IsRowAt containers row → IsRowAt containers (rest_of row)
con_rest end s = s
con_rest (con part kids floats rest) s = record { tiled = s.tiled; room = s.room; sound = s.sound.4 }

pub space_rest : (row : Forest) → IsRowAt spaces row → IsRowAt spaces (rest_of row)
space_rest end s = s
space_rest (con part kids floats rest) s = record { tiled = s.tiled; room = s.room; sound = s.sound.4 }

pub output_rest : (row : Forest) → IsRowAt outputs row → IsRowAt outputs (rest_of row)
output_rest end s = s
output_rest (con part kids floats rest) s = record { tiled = s.tiled; room = s.room; sound = s.sound.4 }
