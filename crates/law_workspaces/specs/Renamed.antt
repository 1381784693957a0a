-- A law of renaming workspaces.
use Rattle.std.specs.Prelude.{◌≡◌, ◌≢◌, ℕ, List, Option, None, Some}
use Rattle.wm_base.specs.declared.ids.ConId.{ConId}
use Rattle.wm_shared.specs.Showing.{space_name}
use Rattle.wm_spaces.specs.Renaming.{rename_refusal, rename_tree, renamed_space}
use Rattle.wm_tree.specs.Sound.{IsSound}
use Rattle.wm_tree.specs.TreeValue.{TreeValue}

-- the names of workspaces differ: two of one name are one
abbrev pub SpaceNamesDiffer : TreeValue → Type 0
SpaceNamesDiffer t = (v w : ConId) (n : List ℕ) → space_name v t ≡ Some n → space_name w t ≡ Some n → v ≡ w

-- the workspace w has the new name, and each other one keeps its own; where names differed, they differ
pub record IsRenamed (w : ConId) (name : List ℕ) (old new : TreeValue) : Type 0 where
  pub named : space_name w new ≡ Some name
  pub others : (v : ConId) → v ≢ w → space_name v new ≡ space_name v old
  pub differ : SpaceNamesDiffer old → SpaceNamesDiffer new

-- after `rename workspace` that is not refused, the workspace has the new name, the others keep theirs, and where the
-- names of workspaces differed before, they differ afterwards
abbrev pub Renames : Type 0
Renames =
    (was : Option (List ℕ)) (name : List ℕ) (w : ConId) (t : TreeValue) → IsSound t → rename_refusal was name t ≡ None → renamed_space was t ≡ Some w
    → IsRenamed w name t (rename_tree was name t)
