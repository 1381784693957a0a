-- Where a node stands: who holds it, in which workspace, whether it is tiled, and how many levels its row may have.
use Rattle.std.specs.Prelude.{ℕ, ◌-◌, Bool, false, true, ◌&&◌, nat_lt, if◌then◌else◌, Option, None, Some}
use Rattle.wm_base.specs.declared.ids.ConId.{ConId}
use Rattle.wm_forest.specs.declared.part.Part.{Part}
use Rattle.wm_forest.specs.declared.part.NodeKind.{NodeKind}
use Rattle.wm_forest.specs.declared.part.NodeKind.TheVariants.{Root, Output, Space, Con}
use Rattle.wm_forest.specs.declared.spot.Spot.{Spot}
use Rattle.wm_forest.specs.Forest.{Forest, end, con}
use Rattle.wm_forest.specs.Look.{same, has}

-- the workspace of a node: a workspace's own, else that of the row in which it stands
abbrev pub space_by : Option ConId → ConId → NodeKind → Option ConId
space_by space id (Root c) = space
space_by space id (Output o) = space
space_by space id (Space s) = Some id
space_by space id (Con c) = space

abbrev pub space_at : Option ConId → Part → Option ConId
space_at space part = space_by space part.id part.kind

-- how many levels there may be below a node: one less below each container, and 32 at the top
abbrev pub room_below : ℕ → NodeKind → ℕ
room_below room (Root c) = 32
room_below room (Output o) = 32
room_below room (Space s) = 32
room_below room (Con c) = room - 1

-- what holds the children of a node (tiled), or its floating windows; nothing holds the windows in the scratchpad
abbrev pub holder_by : Bool → ConId → NodeKind → Option ConId
holder_by tiled id (Root c) = if tiled then Some id else None
holder_by tiled id (Output o) = Some id
holder_by tiled id (Space s) = Some id
holder_by tiled id (Con c) = Some id

-- where the children of a node stand (tiled), or its floating windows
abbrev pub spot_below : Bool → Spot → Part → Spot
spot_below tiled s part = record { holder = holder_by tiled part.id part.kind; space = space_at s.space part; tiled = tiled; room = room_below s.room part.kind }

-- where a node of a row stands
abbrev pub spot_of : Spot → Part → Spot
spot_of s part = record s { space = space_at s.space part }

-- where the node c stands; s tells it of the row. None where it is not there
abbrev pub spot_in : Spot → ConId → Forest → Option Spot
spot_in s c end = None
spot_in s c (con part kids floats rest) =
    if same part.id c then Some (spot_of s part)
    else if has c kids then spot_in (spot_below true s part) c kids
    else if has c floats then spot_in (spot_below false s part) c floats
    else spot_in s c rest

-- the row of the root
abbrev pub top : Spot
top = record { holder = None; space = None; tiled = false; room = 0 }

-- the row and what is below it have at most so many levels
abbrev pub fits : ℕ → Forest → Bool
fits room end = true
fits room (con part kids floats rest) = nat_lt 0 room && fits (room - 1) kids && fits (room - 1) floats && fits room rest
