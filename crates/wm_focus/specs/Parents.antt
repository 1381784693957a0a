-- Focusing the parent and the child of a container.
use Rattle.std.specs.Prelude.{Option, None, is_none}
use Rattle.wm_base.specs.declared.errors.ErrorText.TheVariants as texts
use Rattle.wm_base.specs.declared.errors.Refusal.{Refusal}
use Rattle.wm_base.specs.declared.ids.ConId.{ConId}
use Rattle.wm_shared.specs.Refusing.{error_if}
pub use Rattle.wm_shared.specs.Showing.{raised_some}
use Rattle.wm_shared.specs.Subject.{is_hidden, is_space}
use Rattle.wm_tree.specs.TreeValue.{TreeValue, focused_child, parent}

-- one in the scratchpad has no workspace, and above a workspace nothing is focused
abbrev pub focus_parent_refusal : ConId → TreeValue → Option Refusal
focus_parent_refusal c t = error_if (is_hidden t c) texts.NoWorkspace (error_if (is_space t c) texts.NoNeighbour None)

-- the node is raised that holds c among its children, or the workspace of a floating window
abbrev pub focus_parent_tree : ConId → TreeValue → TreeValue
focus_parent_tree c t = raised_some (parent t c) t

-- one in the scratchpad has no workspace, and without children nothing is focused below
abbrev pub focus_child_refusal : ConId → TreeValue → Option Refusal
focus_child_refusal c t = error_if (is_hidden t c) texts.NoWorkspace (error_if (is_none (focused_child t c)) texts.NoNeighbour None)

-- the focused child of c is raised
abbrev pub focus_child_tree : ConId → TreeValue → TreeValue
focus_child_tree c t = raised_some (focused_child t c) t
