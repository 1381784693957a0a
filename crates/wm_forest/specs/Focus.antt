-- The rows of a workspace or container, the focused child of a row, and the leaf below it, by recency.
use Rattle.std.specs.Prelude.{List, Option, None, Some, option_and_then, if◌then◌else◌}
use Rattle.wm_base.specs.declared.ids.ConId.{ConId}
use Rattle.wm_forest.specs.declared.part.NodeKind.{NodeKind}
use Rattle.wm_forest.specs.declared.part.NodeKind.TheVariants.{Root, Output, Space, Con}
use Rattle.wm_forest.specs.Forest.{Forest, end, con}
use Rattle.wm_forest.specs.Look.{has}
use Rattle.wm_forest.specs.Recency.{first_held}

-- a workspace's or container's row of children; those of other nodes are not tiled
abbrev pub tiled_by : NodeKind → Forest → Forest
tiled_by (Root c) kids = end
tiled_by (Output o) kids = end
tiled_by (Space s) kids = kids
tiled_by (Con c) kids = kids

abbrev pub tiled_kids : Forest → Forest
tiled_kids end = end
tiled_kids (con part kids floats rest) = tiled_by part.kind kids

abbrev pub floats_by : NodeKind → Forest → Forest
floats_by (Root c) floats = end
floats_by (Output o) floats = end
floats_by (Space s) floats = floats
floats_by (Con c) floats = end

-- a workspace's floating windows; other nodes have none
abbrev pub floating_row : Forest → Forest
floating_row end = end
floating_row (con part kids floats rest) = floats_by part.kind floats

-- the node of a row that holds c, or is it
abbrev pub row_holder : ConId → Forest → Option ConId
row_holder c end = None
row_holder c (con part kids floats rest) = if has c (con part kids floats end) then Some part.id else row_holder c rest

-- the child of a row whose subtree holds the first of the ids that any has
abbrev pub focused_in : List ConId → Forest → Option ConId
focused_in ids row = option_and_then (λ c. row_holder c row) (first_held row ids)

abbrev pub follow : ConId → (ConId → ConId) → Option ConId → ConId
follow d f None = d
follow d f (Some c) = f c

-- from the node of a row that holds c on, by the focused child until there is none
abbrev pub leaf_at : List ConId → Forest → ConId → ConId
leaf_at ids end c = c
leaf_at ids (con part kids floats rest) c =
    if has c (con part kids floats end)
    then follow part.id (leaf_at ids kids) (first_held kids ids)
    else leaf_at ids rest c

abbrev pub leaf_of : List ConId → Forest → Option ConId
leaf_of ids end = None
leaf_of ids (con part kids floats rest) = Some (follow part.id (leaf_at ids kids) (first_held (tiled_by part.kind kids) ids))
