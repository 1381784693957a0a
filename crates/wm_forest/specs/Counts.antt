-- Counts of a forest: containers, marks, the nodes of a row and their shares.
use Rattle.std.specs.Prelude.{ℕ, ◌+◌, ◌/◌, ◌==◌, length, if◌then◌else◌}
use Rattle.wm_base.specs.declared.ids.ConId.{ConId}
use Rattle.wm_forest.specs.declared.count.Counted.{Counted}
use Rattle.wm_forest.specs.declared.count.Counted.TheVariants.{Spaces, Cons, Marks}
use Rattle.wm_forest.specs.declared.part.Part.{Part}
use Rattle.wm_forest.specs.declared.part.NodeKind.{NodeKind}
use Rattle.wm_forest.specs.declared.part.NodeKind.TheVariants.{Root, Output, Space, Con}
use Rattle.wm_forest.specs.Forest.{Forest, end, con}
use Rattle.wm_forest.specs.Look.{same, has}

abbrev pub one_con : NodeKind → ℕ
one_con (Root c) = 0
one_con (Output o) = 0
one_con (Space s) = 0
one_con (Con c) = 1

-- what the parts of all nodes count together, at any depth
abbrev pub count : (Part → ℕ) → Forest → ℕ
count m end = 0
count m (con part kids floats rest) = m part + count m kids + count m floats + count m rest

abbrev pub con_of : Part → ℕ
con_of p = one_con p.kind

-- how many containers there are
abbrev pub con_count : Forest → ℕ
con_count f = count con_of f

abbrev pub one_space : NodeKind → ℕ
one_space (Root c) = 0
one_space (Output o) = 0
one_space (Space s) = 1
one_space (Con c) = 0

abbrev pub space_of : Part → ℕ
space_of p = one_space p.kind

-- how many workspaces there are
abbrev pub space_count : Forest → ℕ
space_count f = count space_of f

-- how many marks there are
abbrev pub marks_of : Part → ℕ
marks_of p = length p.marks

abbrev pub mark_count : Forest → ℕ
mark_count f = count marks_of f

-- what a node counts, by what is counted
abbrev pub counts : Counted → Part → ℕ
counts Spaces = space_of
counts Cons = con_of
counts Marks = marks_of

-- how many nodes a row has
abbrev pub row_length : Forest → ℕ
row_length end = 0
row_length (con part kids floats rest) = 1 + row_length rest

-- the share of a node; only containers have one
abbrev pub share_of : NodeKind → ℕ
share_of (Root c) = 0
share_of (Output o) = 0
share_of (Space s) = 0
share_of (Con c) = c.share

abbrev pub share_sum : Forest → ℕ
share_sum end = 0
share_sum (con part kids floats rest) = share_of part.kind + share_sum rest

-- the row without its node c
abbrev pub but : ConId → Forest → Forest
but c end = end
but c (con part kids floats rest) = if same part.id c then rest else con part kids floats (but c rest)

-- the share of a newcomer in a row: the mean of its siblings' shares, rounded down, or 65,536 in an empty row
abbrev pub newcomer_share : Forest → ℕ
newcomer_share row = if row_length row == 0 then 65536 else share_sum row / row_length row

-- the row in which the node c stands; `whole` is the row that the forest ends. Nothing where it is not there
abbrev pub row_with : ConId → Forest → Forest → Forest
row_with c whole end = end
row_with c whole (con part kids floats rest) =
    if same part.id c then whole
    else if has c kids then row_with c kids kids
    else if has c floats then row_with c floats floats
    else row_with c whole rest
