-- Laws of what is found in a tree: it is what looking for its id gives.
use Rattle.std.specs.Prelude.{◌≡◌, Bool, true, false, not, Option, None, Some}
use Rattle.wm_base.specs.declared.ids.ConId.{ConId}
use Rattle.wm_changes.specs.declared.standing.Standing.{Standing}
use Rattle.wm_changes.specs.Facts.{SpaceFact, WindowFact, spaces, windows}
use Rattle.wm_forest.specs.Change.{is_window_kind}
use Rattle.wm_forest.specs.declared.part.ConPart.{ConPart}
use Rattle.wm_forest.specs.declared.part.SpacePart.{SpacePart}
use Rattle.wm_forest.specs.declared.spot.Spot.{Spot}
use Rattle.wm_forest.specs.Look.{con_kind, kind_of, space_kind}
use Rattle.wm_tree.specs.Sound.{IsSound}
use Rattle.wm_tree.specs.TreeValue.{TreeValue, spot}
use Rattle.wm_views.specs.Maps.{value_at}

-- ---- windows

-- a container that is a window
abbrev pub is_window : Option ConPart → Bool
is_window None = false
is_window (Some c) = is_window_kind c.kind

-- the same parent, the same workspace, and tiled or not
abbrev pub StandsAt : Standing → Spot → Type 0
StandsAt s p = (s.holder ≡ p.holder) × (s.space ≡ p.space) × (s.floating ≡ not p.tiled)

abbrev pub StandsThere : Standing → Option Spot → Type 0
StandsThere s None = ⊥
StandsThere s (Some p) = StandsAt s p

-- what was found of an id is what the tree says of it: a window as it is, where it is; nothing where the id is no window's
abbrev pub IsFound : Option WindowFact → Option ConPart → Option Spot → Type 0
IsFound None state place = is_window state ≡ false
IsFound (Some w) state place = (state ≡ Some w.state) × (is_window state ≡ true) × StandsThere w.standing place

-- each window of a sound tree is found, as it is and where it stands, and nothing else is
abbrev pub WindowsAreFound : Type 0
WindowsAreFound = (t : TreeValue) (c : ConId) → IsSound t → IsFound (value_at (windows t) c) (kind_of con_kind c t.nodes) (spot t c)

-- ---- workspaces

-- this node holds what stands there
abbrev pub HeldBy : ConId → Option Spot → Type 0
HeldBy c None = ⊥
HeldBy c (Some p) = p.holder ≡ Some c

-- what was found of an id is what the tree says of it: a workspace as it is, on the output that holds it; nothing where
-- the id is no workspace's
abbrev pub IsFoundSpace : Option SpaceFact → Option SpacePart → Option Spot → Type 0
IsFoundSpace None state place = state ≡ None
IsFoundSpace (Some s) state place = (state ≡ Some s.state) × HeldBy s.output_id place

-- each workspace of a sound tree is found, as it is and on its output, and nothing else is
abbrev pub SpacesAreFound : Type 0
SpacesAreFound = (t : TreeValue) (c : ConId) → IsSound t → IsFoundSpace (value_at (spaces t) c) (kind_of space_kind c t.nodes) (spot t c)
