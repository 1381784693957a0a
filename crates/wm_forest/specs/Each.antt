-- Changing each node of a forest.
use Rattle.wm_forest.specs.declared.part.Part.{Part}
use Rattle.wm_forest.specs.Forest.{Forest, end, con}

-- the forest in which each node has what f makes of its part
abbrev pub mapped : (Part → Part) → Forest → Forest
mapped f end = end
mapped f (con part kids floats rest) = con (f part) (mapped f kids) (mapped f floats) (mapped f rest)
