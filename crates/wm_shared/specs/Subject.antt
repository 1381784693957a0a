-- The container or workspace that a command is done to.
use Rattle.std.specs.Prelude.{◌≡◌, true, false, Bool, Option, None, Some, is_none, is_some}
use Rattle.wm_base.specs.declared.errors.ErrorText.TheVariants as texts
use Rattle.wm_base.specs.declared.errors.Refusal.{Refusal}
use Rattle.wm_base.specs.declared.ids.ConId.{ConId}
use Rattle.wm_forest.specs.Look.{con_kind, kind_of, space_kind}
use Rattle.wm_shared.specs.Refusing.{IsCause, error_if}
use Rattle.wm_tree.specs.Sound.{IsSound}
use Rattle.wm_tree.specs.TreeValue.{TreeValue, workspace_of}

-- a workspace or a container of the tree
abbrev pub is_subject_kind : {A B : Type 0} → Option A → Option B → Bool
is_subject_kind (Some s) con = true
is_subject_kind None (Some c) = true
is_subject_kind None None = false

-- c is a workspace
abbrev pub is_space : TreeValue → ConId → Bool
is_space t c = is_some (kind_of space_kind c t.nodes)

-- c is a container
abbrev pub is_container : TreeValue → ConId → Bool
is_container t c = is_some (kind_of con_kind c t.nodes)

-- c is in the scratchpad: it has no workspace
abbrev pub is_hidden : TreeValue → ConId → Bool
is_hidden t c = is_none (workspace_of t c)

-- c is there and is a workspace or a container, in a sound tree
pub record IsSubject (t : TreeValue) (c : ConId) : Type 0 where
  pub sound : IsSound t
  pub kind : is_subject_kind (kind_of space_kind c t.nodes) (kind_of con_kind c t.nodes) ≡ true

-- the first error of a command for containers on a workspace: c is in the scratchpad, or is a workspace; else one of the
-- others
abbrev pub placed_refusal : ConId → Option Refusal → TreeValue → Option Refusal
placed_refusal c others t = error_if (is_hidden t c) texts.NoWorkspace (error_if (is_space t c) texts.AtWorkspace others)

-- why such a command is not done to c, whatever the others are
abbrev pub IsUnplaced : ConId → TreeValue → Refusal → Type 0
IsUnplaced c t e = (others : Option Refusal) → placed_refusal c others t ≡ Some e

-- the same of a command that wants memory
abbrev pub IsUnplacedCause : ConId → TreeValue → Refusal → Type 0
IsUnplacedCause c t e = (others : Option Refusal) → IsCause (placed_refusal c others t) e
