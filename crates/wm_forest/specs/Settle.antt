-- What settling takes out, and what is left.
use Rattle.std.specs.Prelude.{Bool, true, ◌&&◌, not, if◌then◌else◌, Option}
use Rattle.wm_base.specs.declared.ids.ConId.{ConId}
use Rattle.wm_forest.specs.declared.part.Part.{Part}
use Rattle.wm_forest.specs.Change.{append, is_vacant, settled_row, shown_of}
use Rattle.wm_forest.specs.Forest.{Forest, end, con}

-- the nodes that settling takes out, in a row, the last one first
abbrev pub vacated : Option ConId → Forest → Forest
vacated shown end = end
vacated shown (con part kids floats rest) =
    if is_vacant shown part.id part.kind (settled_row (shown_of part.kind) kids) floats
    then con part (settled_row (shown_of part.kind) kids) floats (append (vacated shown rest) (vacated (shown_of part.kind) kids))
    else append (vacated shown rest) (vacated (shown_of part.kind) kids)

-- no node of the forest is vacant
abbrev pub is_settled : Option ConId → Forest → Bool
is_settled shown end = true
is_settled shown (con part kids floats rest) =
    not (is_vacant shown part.id part.kind kids floats) && is_settled (shown_of part.kind) kids && is_settled shown rest

-- the node is vacant in the row of an output that shows `shown`
abbrev pub vacant_in : Option ConId → Part → Forest → Forest → Bool
vacant_in shown part kids floats = is_vacant shown part.id part.kind kids floats
