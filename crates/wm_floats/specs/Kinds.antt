-- The most recent tiled or floating container of a workspace.
use Rattle.std.specs.Prelude.{Bool, true, false, ◌&&◌, not, if◌then◌else◌, List, [], ◌∷◌, Option, None, Some, is_none}
use Rattle.wm_base.specs.declared.errors.ErrorText.TheVariants as texts
use Rattle.wm_base.specs.declared.errors.Refusal.{Refusal}
use Rattle.wm_base.specs.declared.ids.ConId.{ConId}
use Rattle.wm_floats.specs.declared.kinds.Kind.{Kind}
use Rattle.wm_floats.specs.declared.kinds.Kind.TheVariants as kinds
use Rattle.wm_floats.specs.Windows.{state_of}
use Rattle.wm_shared.specs.Refusing.{error_if}
pub use Rattle.wm_shared.specs.Showing.{raised_some}
use Rattle.wm_shared.specs.Subject.{is_container, is_hidden}
use Rattle.wm_forest.specs.declared.part.ConPart.{ConPart}
use Rattle.wm_forest.specs.declared.part.ConState.{ConState}
use Rattle.wm_forest.specs.Change.{is_id}
use Rattle.wm_tree.specs.TreeValue.{TreeValue, is_tiled_con, workspace_of}

abbrev pub is_flagged_state : Option ConState → Bool
is_flagged_state None = false
is_flagged_state (Some s) = s.flagged

-- a container that is tiled, that floats, or that floats and is flagged for the scratchpad
abbrev pub is_of : Kind → TreeValue → ConId → Bool
is_of kinds.Tiled t c = is_tiled_con t c
is_of kinds.Floating t c = is_container t c && not (is_tiled_con t c)
is_of kinds.Flagged t c = is_container t c && not (is_tiled_con t c) && is_flagged_state (state_of c t)

-- the same of a container with this part that is tiled or not
abbrev pub is_placed_of : Kind → ConPart → Bool → Bool
is_placed_of kinds.Tiled part tiled = tiled
is_placed_of kinds.Floating part tiled = not tiled
is_placed_of kinds.Flagged part tiled = not tiled && part.state.flagged

-- such a container of the workspace w
abbrev pub is_of_space : Kind → ConId → TreeValue → ConId → Bool
is_of_space k w t c = is_id w (workspace_of t c) && is_of k t c

-- the first one among the ids
abbrev pub first_of : Kind → ConId → TreeValue → List ConId → Option ConId
first_of k w t [] = None
first_of k w t (id ∷ ids) = if is_of_space k w t id then Some id else first_of k w t ids

-- the most recent one of the workspace w
abbrev pub latest : Kind → Option ConId → TreeValue → Option ConId
latest k None t = None
latest k (Some w) t = first_of k w t t.recency

-- ---- focus between tiled and floating

abbrev pub kind_by : Bool → Kind
kind_by true = kinds.Floating
kind_by false = kinds.Tiled

-- one in the scratchpad has no workspace, and there is a container of that kind
abbrev pub focus_kind_refusal : ConId → Bool → TreeValue → Option Refusal
focus_kind_refusal c floating t =
    error_if (is_hidden t c) texts.NoWorkspace (error_if (is_none (latest (kind_by floating) (workspace_of t c) t)) texts.NoNeighbour None)

-- the most recent floating window or tiled container of the subject's workspace is raised
abbrev pub focus_kind_tree : ConId → Bool → TreeValue → TreeValue
focus_kind_tree c floating t = raised_some (latest (kind_by floating) (workspace_of t c) t) t
