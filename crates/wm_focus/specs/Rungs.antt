-- The nodes that hold a container, from the nearest upwards, and what is looked for at them in a direction.
use Rattle.std.specs.Prelude.{Bool, if◌then◌else◌, List, [], ◌∷◌, ◌++◌, Option, None, Some}
use Rattle.std.specs.Option.{option_or}
use Rattle.wm_base.specs.declared.geometry.Dir.{Dir}
use Rattle.wm_base.specs.declared.ids.ConId.{ConId}
use Rattle.wm_focus.specs.declared.rungs.Aim.{Aim}
use Rattle.wm_focus.specs.declared.rungs.Aim.TheVariants.{Around, Beside, Out}
use Rattle.wm_forest.specs.declared.part.ConKind.{ConKind}
use Rattle.wm_forest.specs.declared.part.NodeKind.{NodeKind}
use Rattle.wm_shared.specs.Neighbours.{dir_axis, first_id, is_forward, last_id, neighbour, runs as runs_along, runs_con as splits_along}
use Rattle.wm_forest.specs.Change.{is_end}
use Rattle.wm_forest.specs.Forest.{Forest, end, con}
use Rattle.wm_forest.specs.Look.{has, rest_of, same}
use Rattle.wm_tree.specs.TreeValue.{or_id}
use Rattle.wm_forest.specs.Focus.{row_holder}

-- ---- axes

-- a split puts its children along the axis of the direction
abbrev pub runs_con : Dir → ConKind → Bool
runs_con d kind = splits_along (dir_axis d) kind

-- a workspace or split puts its children along the axis of the direction
abbrev pub runs : Dir → NodeKind → Bool
runs d kind = runs_along (dir_axis d) kind

-- the node at the other end than that of the direction, in a row of two or more
abbrev pub far_end : Dir → Forest → Option ConId
far_end d row = if is_end (rest_of row) then None else if is_forward d then first_id row else last_id row

-- ---- the nodes above

-- a node that holds a container: what it is, its children, and which of them is the container or holds it
pub record Rung : Type 0 where
  pub kind : NodeKind
  pub row : Forest
  pub child : ConId

abbrev pub rung : NodeKind → Forest → ConId → Rung
rung kind row child = record { kind = kind; row = row; child = child }

-- the nodes that hold c as a child or below one, the nearest first
abbrev pub rungs : ConId → Forest → List Rung
rungs c end = []
rungs c (con part kids floats rest) =
    if same part.id c then []
    else if has c kids then rungs c kids ++ rung part.kind kids (or_id (row_holder c kids) c) ∷ []
    else if has c floats then rungs c floats
    else rungs c rest

-- what is looked for at a node along the axis of the direction: the neighbour of the child on that side, the child at
-- the other end, or the child itself
abbrev pub aimed : Aim → Dir → Rung → Option ConId
aimed Beside d r = if runs d r.kind then neighbour d r.child r.row else None
aimed Around d r = if runs d r.kind then far_end d r.row else None
aimed Out d r = if runs d r.kind then Some r.child else None

-- what is found at the first of the nodes that has it
abbrev pub first_aimed : Aim → Dir → List Rung → Option ConId
first_aimed aim d [] = None
first_aimed aim d (r ∷ rs) = option_or (aimed aim d r) (first_aimed aim d rs)

-- what is found at the nearest node above c that has it
abbrev pub nearest : Aim → Dir → ConId → Forest → Option ConId
nearest aim d c forest = first_aimed aim d (rungs c forest)
