-- Changing a forest at one node: each word gives the forest back as it was where the node is not there.
use Rattle.std.specs.Prelude.{ℕ, [], Bool, true, false, ◌&&◌, not, if◌then◌else◌, Option, None, Some}
use Rattle.wm_base.specs.declared.geometry.Rect.{Rect}
use Rattle.wm_base.specs.declared.ids.ConId.{ConId}
use Rattle.wm_forest.specs.declared.part.Part.{Part}
use Rattle.wm_forest.specs.declared.part.NodeKind.{NodeKind}
use Rattle.wm_forest.specs.declared.part.NodeKind.TheVariants.{Root, Output, Space, Con}
use Rattle.wm_forest.specs.declared.part.ConKind.{ConKind}
use Rattle.wm_forest.specs.declared.part.ConKind.TheVariants.{Split, Window, Placeholder}
use Rattle.wm_forest.specs.Counts.{but}
use Rattle.wm_forest.specs.Forest.{Forest, end, con}
use Rattle.wm_forest.specs.Look.{same, has, in_row, node_in, first_alone}

-- the forest with the node c, and the rest of its row, replaced by what f makes of them and of x
abbrev pub at : {X : Type 0} → ConId → (X → Part → Forest → Forest → Forest → Forest) → X → Forest → Forest
at c f x end = end
at c f x (con part kids floats rest) =
    if same part.id c then f x part kids floats rest
    else if has c kids then con part (at c f x kids) floats rest
    else if has c floats then con part kids (at c f x floats) rest
    else con part kids floats (at c f x rest)

-- the row, from its first node on replaced by what f makes of it and of x
abbrev pub first_by : {X : Type 0} → (X → Part → Forest → Forest → Forest → Forest) → X → Forest → Forest
first_by f x end = end
first_by f x (con part kids floats rest) = f x part kids floats rest

-- the nodes of a row, and then those of another
abbrev pub append : Forest → Forest → Forest
append end row = row
append (con part kids floats rest) row = con part kids floats (append rest row)

-- the forest without the node c and what is below it
abbrev pub without : ConId → Forest → Forest
without c forest = at c (λ row part kids floats rest. rest) end forest

-- ---- rows

-- the row with its node c last
abbrev pub to_end : ConId → Forest → Forest
to_end c row = if in_row c row then append (but c row) (first_alone (node_in c row)) else row

-- a container without fullscreen
abbrev pub unfull_kind : NodeKind → NodeKind
unfull_kind (Root c) = Root c
unfull_kind (Output o) = Output o
unfull_kind (Space s) = Space s
unfull_kind (Con c) = Con (record c { state = record c.state { fullscreen = false } })

-- the forest in which no container but c is fullscreen
abbrev pub unfull : ConId → Forest → Forest
unfull c end = end
unfull c (con part kids floats rest) =
    con (if same part.id c then part else record part { kind = unfull_kind part.kind }) (unfull c kids) (unfull c floats) (unfull c rest)

-- a workspace in which the container c is raised: it is last of the floating windows, where it is one of them,
-- and no other container is fullscreen
abbrev pub raised_in : ConId → Part → Forest → Forest → Forest → Forest
raised_in c part kids floats rest = con part (unfull c kids) (to_end c (unfull c floats)) rest

-- the forest in which c is raised in this workspace
abbrev pub raised_at : ConId → Option ConId → Forest → Forest
raised_at c None forest = forest
raised_at c (Some w) forest = at w raised_in c forest

-- ---- settling

-- the workspace that an output shows
abbrev pub shown_of : NodeKind → Option ConId
shown_of (Root c) = None
shown_of (Output o) = Some o.shown
shown_of (Space s) = None
shown_of (Con c) = None

abbrev pub is_id : ConId → Option ConId → Bool
is_id c None = false
is_id c (Some d) = same c d

-- a container that is a window
abbrev pub is_window_kind : ConKind → Bool
is_window_kind (Split layout last) = false
is_window_kind (Window props owner natural) = true
is_window_kind (Placeholder props swallows) = false

-- a container that is a split
abbrev pub is_split : ConKind → Bool
is_split (Split layout last) = true
is_split (Window props owner natural) = false
is_split (Placeholder props swallows) = false

abbrev pub is_end : Forest → Bool
is_end end = true
is_end (con part kids floats rest) = false

-- a split without children, or a workspace without containers that is not shown
abbrev pub is_vacant : Option ConId → ConId → NodeKind → Forest → Forest → Bool
is_vacant shown id (Root c) kids floats = false
is_vacant shown id (Output o) kids floats = false
is_vacant shown id (Space s) kids floats = is_end kids && is_end floats && not (is_id id shown)
is_vacant shown id (Con c) kids floats = is_split c.kind && is_end kids

-- the forest without vacant nodes, from below upwards; its workspaces stand on an output that shows `shown`
abbrev pub settled_row : Option ConId → Forest → Forest
settled_row shown end = end
settled_row shown (con part kids floats rest) =
    if is_vacant shown part.id part.kind (settled_row (shown_of part.kind) kids) floats
    then settled_row shown rest
    else con part (settled_row (shown_of part.kind) kids) floats (settled_row shown rest)

-- ---- a container that comes to another place

-- the id that no node has
abbrev pub nobody : ConId
nobody = record { 0 = 0 }

abbrev pub or_rect : Option Rect → Option Rect → Option Rect
or_rect None old = old
or_rect (Some r) old = Some r

-- a container with this share, and with this outer rectangle where one is given
abbrev pub placed : ℕ → Option Rect → NodeKind → NodeKind
placed share rect (Root c) = Root c
placed share rect (Output o) = Output o
placed share rect (Space s) = Space s
placed share rect (Con c) = Con (record c { share = share; state = record c.state { rect = or_rect rect c.state.rect } })

-- the first node of a row as it comes to its new place; from another workspace it and what is below it lose fullscreen
abbrev pub arriving : ℕ → Option Rect → Bool → Forest → Forest
arriving share rect away end = end
arriving share rect away (con part kids floats rest) =
    if away
    then con (record part { kind = unfull_kind (placed share rect part.kind) }) (unfull nobody kids) (unfull nobody floats) rest
    else con (record part { kind = placed share rect part.kind }) kids floats rest

-- the first node of a row in the place of a node
abbrev pub in_place : Forest → Part → Forest → Forest → Forest → Forest
in_place end part kids floats rest = con part kids floats rest
in_place (con new below above behind) part kids floats rest = con new below above rest

-- the first node of a row in the place of the node c
abbrev pub replaced : ConId → Forest → Forest → Forest
replaced c node forest = at c in_place node forest

-- what stands in a place while two containers change places
abbrev pub hole : Forest
hole = con (record { id = nobody; kind = Root nobody; marks = [] }) end end end
