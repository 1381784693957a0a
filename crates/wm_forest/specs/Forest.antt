-- The nested value of a tree: rows of nodes with what is below them.
use Rattle.std.specs.Prelude.{ℕ, ◌+◌}
use Rattle.wm_forest.specs.declared.part.Part.{Part}

-- A row of nodes: nothing, or its first node with the rest of the row behind it. A node has its part, the row
-- of its children and the row of its floating windows.
pub data Forest : Type 0 where
  end : Forest
  con : Part → Forest → Forest → Forest → Forest

-- how many nodes there are
abbrev pub node_count : Forest → ℕ
node_count end = 0
node_count (con part kids floats rest) = 1 + node_count kids + node_count floats + node_count rest
