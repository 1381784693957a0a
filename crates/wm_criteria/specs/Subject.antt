-- A container as criteria see it, what is focused in a tree, and where a row of nodes stands in it.
use Rattle.std.specs.Prelude.{◌≡◌, ◌≤◌, ℕ, Bool, true, List, Option, Some, option_and_then, is_some}
use Rattle.std.specs.Option.{option_copied}
use Rattle.wm_base.specs.declared.ids.ConId.{ConId}
use Rattle.wm_base.specs.declared.properties.Props.{Props}
use Rattle.wm_criteria.specs.Holds.{space_name, window, workspace_name}
use Rattle.wm_criteria.specs.declared.subject.Subject.{Subject}
use Rattle.wm_forest.specs.declared.part.NodeKind.{NodeKind}
use Rattle.wm_forest.specs.declared.part.NodeKind.TheVariants.{Root, Output, Space, Con}
use Rattle.wm_forest.specs.declared.part.Part.{Part}
use Rattle.wm_forest.specs.declared.spot.Spot.{Spot}
use Rattle.wm_forest.specs.Forest.{Forest}
use Rattle.wm_forest.specs.Look.{first_marks, first_part, has, only}
use Rattle.wm_forest.specs.SoundRow.{tally}
use Rattle.wm_forest.specs.Spot.{spot_in, top}
use Rattle.wm_tree.specs.TreeValue.{TreeValue, focused, is_tiled_con, is_tiled_spot, shown, spot, workspace_of}

-- what the subject says of the container of its id is so in the tree
pub record IsSubject (s : Subject) (t : TreeValue) : Type 0 where
  pub window : window t s.id ≡ option_copied s.window
  pub marks : first_marks (only s.id t.nodes) ≡ s.marks.now
  pub space : workspace_name t s.id ≡ s.space.now
  pub placed : is_some (workspace_of t s.id) ≡ s.placed
  pub tiled : is_tiled_con t s.id ≡ s.tiled

-- the focused container, the properties of the focused window, and the name of the focused workspace
pub record IsFocus (c : ConId) (own : Option Props) (name : Option (List ℕ)) (t : TreeValue) : Type 0 where
  pub con : focused t ≡ c
  pub window : window t (focused t) ≡ own
  pub space : space_name t (shown t) ≡ name

-- the name of the workspace of a node: a workspace's own, else that of the row in which it stands
abbrev pub name_by : Option (List ℕ) → NodeKind → Option (List ℕ)
name_by name (Root c) = name
name_by name (Output o) = name
name_by name (Space s) = Some s.name
name_by name (Con c) = name

-- the node is the one that its id finds; it stands in the workspace of this name, or in none, and its row is one of
-- tiled nodes or not
pub record IsAt (name : Option (List ℕ)) (is_tiled : Bool) (p : Part) (t : TreeValue) : Type 0 where
  pub part : first_part (only p.id t.nodes) ≡ Some p
  pub marks : first_marks (only p.id t.nodes) ≡ p.marks
  pub space : option_and_then (λ w. space_name t w) (workspace_of t p.id) ≡ name
  pub placed : is_some (workspace_of t p.id) ≡ is_some name
  pub tiled : is_tiled_spot (spot t p.id) ≡ is_tiled

-- each node of the row and below it is the one that its id finds; the row is in the workspace of this name, or in
-- none, and is one of tiled nodes or not
pub record IsRowAt (name : Option (List ℕ)) (is_tiled : Bool) (row : Forest) (t : TreeValue) : Type 0 where
  pub at : Spot
  pub space : option_and_then (λ w. space_name t w) at.space ≡ name
  pub placed : is_some at.space ≡ is_some name
  pub tiled : at.tiled ≡ is_tiled
  pub once : (c : ConId) → tally c row ≤ 1
  pub node : (c : ConId) → has c row ≡ true → only c t.nodes ≡ only c row
  pub stands : (c : ConId) → has c row ≡ true → spot_in top c t.nodes ≡ spot_in at c row
