-- What holds of the rows of every tree: its shape and limits, and how often an id is there.
use Rattle.std.specs.Prelude.{◌≡◌, true, false, ℕ, ◌+◌, ◌≤◌, pos, negsuc, ◌≤ℤ◌, if◌then◌else◌, Bool, length, List, [], ◌∷◌}
use Rattle.wm_base.specs.declared.geometry.Rect.{Rect}
use Rattle.wm_base.specs.declared.ids.ConId.{ConId}
use Rattle.wm_forest.specs.declared.part.Part.{Part}
use Rattle.wm_forest.specs.declared.part.ConKind.{ConKind}
use Rattle.wm_forest.specs.declared.part.ConKind.TheVariants.{Split, Window, Placeholder}
use Rattle.wm_forest.specs.declared.part.NodeKind.{NodeKind}
use Rattle.wm_forest.specs.declared.part.NodeKind.TheVariants.{Root, Output, Space, Con}
use Rattle.wm_forest.specs.Forest.{Forest, end, con}
use Rattle.wm_forest.specs.Counts.{count, row_length}
use Rattle.wm_forest.specs.Look.{same, in_row}
use Rattle.wm_forest.specs.Spot.{room_below}
use Rattle.wm_forest.specs.RootId.{root}

-- the rectangle of an output: places from -131,072 to 131,071, and sides of at most 16,384
pub record IsOutputRect (r : Rect) : Type 0 where
  pub x_low : negsuc 131071 ≤ℤ r.x
  pub x_high : r.x ≤ℤ pos 131071
  pub y_low : negsuc 131071 ≤ℤ r.y
  pub y_high : r.y ≤ℤ pos 131071
  pub width : r.w ≤ 16384
  pub height : r.h ≤ 16384

-- the row of the root, a row of outputs, of workspaces, or of containers
pub data Level : Type 0 where
  roots : Level
  outputs : Level
  spaces : Level
  containers : Level

-- the level of a node's children; floating windows and those in the scratchpad are containers
abbrev pub below : Level → Level
below roots = outputs
below outputs = spaces
below spaces = containers
below containers = containers

-- only splits have children
abbrev pub HasKids : ConKind → Forest → Type 0
HasKids (Split layout last) kids = Unit {0}
HasKids (Window props owner natural) kids = kids ≡ end
HasKids (Placeholder props swallows) kids = kids ≡ end

-- a tiled container has a share from 1 to 1,048,576, another one has none
abbrev pub HasShare : Bool → ℕ → Type 0
HasShare true share = (1 ≤ share) × (share ≤ 1048576)
HasShare false share = share ≡ 0

-- a node of a row at this level: the current output is there, an output shows a workspace of its own, and the depth
-- of a container, its share and the number of its marks are within their limits
abbrev pub IsNode : Level → Bool → ℕ → ConId → NodeKind → List (List ℕ) → Forest → Type 0
IsNode roots tiled room id (Root c) marks kids = (id ≡ root) × (in_row c kids ≡ true) × (marks ≡ [])
IsNode roots tiled room id (Output o) marks kids = ⊥
IsNode roots tiled room id (Space w) marks kids = ⊥
IsNode roots tiled room id (Con c) marks kids = ⊥
IsNode outputs tiled room id (Root c) marks kids = ⊥
IsNode outputs tiled room id (Output o) marks kids = IsOutputRect o.rect × (in_row o.shown kids ≡ true) × (marks ≡ [])
IsNode outputs tiled room id (Space w) marks kids = ⊥
IsNode outputs tiled room id (Con c) marks kids = ⊥
IsNode spaces tiled room id (Root c) marks kids = ⊥
IsNode spaces tiled room id (Output o) marks kids = ⊥
IsNode spaces tiled room id (Space w) marks kids = marks ≡ []
IsNode spaces tiled room id (Con c) marks kids = ⊥
IsNode containers tiled room id (Root c) marks kids = ⊥
IsNode containers tiled room id (Output o) marks kids = ⊥
IsNode containers tiled room id (Space w) marks kids = ⊥
IsNode containers tiled room id (Con c) marks kids = (1 ≤ room) × HasShare tiled c.share × (length marks ≤ 32) × HasKids c.kind kids

-- N holds of each node, and each has at most 256 children; the row is one of tiled children or not, and may have
-- `room` levels
abbrev pub RowOf : (Level → Bool → ℕ → ConId → NodeKind → List (List ℕ) → Forest → Type 0) → Level → Bool → ℕ → Forest → Type 0
RowOf N l tiled room end = Unit {0}
RowOf N l tiled room (con part kids floats rest) =
    N l tiled room part.id part.kind part.marks kids × (row_length kids ≤ 256) × RowOf N (below l) true (room_below room part.kind) kids ×
    RowOf N containers false (room_below room part.kind) floats × RowOf N l tiled room rest

-- each node of the row is sound
abbrev pub IsSoundRow : Level → Bool → ℕ → Forest → Type 0
IsSoundRow l tiled room f = RowOf IsNode l tiled room f

-- how many nodes have the id c
abbrev pub one_of : ConId → Part → ℕ
one_of c p = if same p.id c then 1 else 0

abbrev pub tally : ConId → Forest → ℕ
tally c f = count (one_of c) f

-- a workspace or container counts one
abbrev pub ranks : NodeKind → ℕ
ranks (Root c) = 0
ranks (Output o) = 0
ranks (Space s) = 1
ranks (Con c) = 1

-- how many workspaces and containers have the id c
abbrev pub rank_of : ConId → Part → ℕ
rank_of c p = if same p.id c then ranks p.kind else 0

abbrev pub ranked : ConId → Forest → ℕ
ranked c f = count (rank_of c) f

-- how often c is among the ids
abbrev pub times : ConId → List ConId → ℕ
times c [] = 0
times c (id ∷ ids) = (if same id c then 1 else 0) + times c ids
