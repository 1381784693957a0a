-- Ids by number, the root's, and the current output that the root names.
use Rattle.std.specs.Prelude.{ℕ}
use Rattle.wm_base.specs.declared.ids.ConId.{ConId}
use Rattle.wm_forest.specs.declared.part.NodeKind.{NodeKind}
use Rattle.wm_forest.specs.declared.part.NodeKind.TheVariants.{Root, Output, Space, Con}

-- the id with this number
abbrev pub id : ℕ → ConId
id n = record { 0 = n }

-- the node that holds the outputs and the scratchpad
abbrev pub root : ConId
root = id 1

-- the current output, or the root where the forest has none
abbrev pub current_of : NodeKind → ConId
current_of (Root c) = c
current_of (Output o) = root
current_of (Space s) = root
current_of (Con c) = root
