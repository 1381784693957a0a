-- Laws of focusing.
use Rattle.std.specs.Prelude.{◌≡◌, ◌⊎◌, true, false, [], Option, None, Some}
use Rattle.wm_base.specs.declared.geometry.Dir.{Dir}
use Rattle.wm_base.specs.declared.ids.ConId.{ConId}
use Rattle.wm_floats.specs.declared.kinds.Kind.TheVariants as kinds
use Rattle.wm_floats.specs.Kinds.{is_of}
use Rattle.wm_focus.specs.declared.direction.Goal.TheVariants.{Node}
use Rattle.wm_focus.specs.Direction.{focus_dir_tree, goal_of}
use Rattle.wm_focus.specs.Parents.{focus_child_tree, focus_parent_tree}
use Rattle.wm_shared.specs.Showing.{showing_some}
use Rattle.wm_shared.specs.Subject.{is_space}
use Rattle.wm_forest.specs.Change.{nobody, unfull, without}
use Rattle.wm_tree.specs.Sound.{IsSound}
use Rattle.wm_tree.specs.TreeValue.{TreeValue, focused_child, is_tiled_con, leaf, parent, workspace_of}

-- the tree without recency, urgency and fullscreen
abbrev pub unfocused : TreeValue → TreeValue
unfocused t = record t { nodes = unfull nobody t.nodes; recency = []; urgent = [] }

-- two trees differ in nothing but recency, urgency, and fullscreen below one workspace, where there is one
abbrev pub DifferInFocus : Option ConId → TreeValue → TreeValue → Type 0
DifferInFocus None t new = (unfocused new ≡ unfocused t) × (new.nodes ≡ t.nodes)
DifferInFocus (Some w) t new = (unfocused new ≡ unfocused t) × (without w new.nodes ≡ without w t.nodes)

-- focusing a child changes nothing else, in its workspace
abbrev pub ChildKeeps : Type 0
ChildKeeps = (c x : ConId) (t : TreeValue) → IsSound t → focused_child t c ≡ Some x → DifferInFocus (workspace_of t x) t (focus_child_tree c t)

-- focusing a node in a direction, from what does not float, changes nothing else, in the workspace of what is focused, where
-- that is shown and focused already
abbrev pub DirectionKeeps : Type 0
DirectionKeeps =
    (c n x : ConId) (d : Dir) (t : TreeValue) → IsSound t → is_of kinds.Floating t c ≡ false → goal_of d c t ≡ Some (Node n) → leaf t n ≡ Some x → showing_some (workspace_of t x) t ≡ t → DifferInFocus (workspace_of t x) t (focus_dir_tree c d t)

-- focusing a parent that is tiled or a workspace changes nothing else, in its workspace
abbrev pub ParentKeeps : Type 0
ParentKeeps = (c x : ConId) (t : TreeValue) → IsSound t → parent t c ≡ Some x → (is_tiled_con t x ≡ true) ⊎ (is_space t x ≡ true) → DifferInFocus (workspace_of t x) t (focus_parent_tree c t)
