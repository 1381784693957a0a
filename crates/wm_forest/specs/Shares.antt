-- Giving several nodes of a row other shares.
use Rattle.std.specs.Prelude.{ℕ, if◌then◌else◌, List, [], ◌∷◌}
use Rattle.wm_base.specs.declared.ids.ConId.{ConId}
use Rattle.wm_forest.specs.declared.kind.KindEdit.TheVariants as edits
use Rattle.wm_forest.specs.declared.part.Part.{Part}
use Rattle.wm_forest.specs.declared.shares.Sibling.{Sibling}
use Rattle.wm_forest.specs.Forest.{Forest, end, con}
use Rattle.wm_forest.specs.Kinds.{changed}
use Rattle.wm_forest.specs.Look.{same}

-- a container with another share; other nodes have none
abbrev pub shared_part : ℕ → Part → Part
shared_part s part = record part { kind = changed (edits.Share s) part.kind }

-- the node with the first share listed, where that is its own
abbrev pub first_shared : List Sibling → Part → Part
first_shared [] part = part
first_shared (s ∷ siblings) part = if same part.id s.id then shared_part s.share part else part

-- what is listed for the nodes behind this one
abbrev pub left_behind : List Sibling → ConId → List Sibling
left_behind [] c = []
left_behind (s ∷ siblings) c = if same c s.id then siblings else s ∷ siblings

-- the row whose nodes that are listed, in the order in which they stand, have the shares listed
abbrev pub shared : List Sibling → Forest → Forest
shared siblings end = end
shared siblings (con part kids floats rest) = con (first_shared siblings part) kids floats (shared (left_behind siblings part.id) rest)

-- a node whose children that are listed have the shares listed
abbrev pub shares_word : List Sibling → Part → Forest → Forest → Forest → Forest
shares_word siblings part kids floats rest = con part (shared siblings kids) floats rest
