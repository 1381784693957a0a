-- Renaming workspaces.
use Rattle.std.specs.Prelude.{ℕ, if◌then◌else◌, List, Option, None, Some}
use Rattle.wm_base.specs.declared.errors.ErrorText.TheVariants as texts
use Rattle.wm_base.specs.declared.errors.Refusal.{Refusal}
use Rattle.wm_base.specs.declared.errors.Refusal.TheVariants.{NameTaken, NoTarget}
use Rattle.wm_base.specs.declared.ids.ConId.{ConId}
use Rattle.wm_shared.specs.Refusing.{error_if}
use Rattle.wm_spaces.specs.Names.{is_reserved, other_has, space_named}
use Rattle.wm_forest.specs.declared.kind.KindEdit.TheVariants as edits
use Rattle.wm_tree.specs.TreeValue.{TreeValue, shown}
use Rattle.wm_tree.specs.Words.{edited}

-- the workspace of the name, or else the focused one
abbrev pub renamed_space : Option (List ℕ) → TreeValue → Option ConId
renamed_space None t = Some (shown t)
renamed_space (Some was) t = space_named was t

abbrev pub renaming_refusal : Option ConId → List ℕ → TreeValue → Option Refusal
renaming_refusal None name t = Some (NoTarget texts.NoWorkspace)
renaming_refusal (Some w) name t = error_if (is_reserved name) texts.NameReserved (if other_has w name t then Some NameTaken else None)

-- the workspace is there, and the name is neither reserved nor another one's
abbrev pub rename_refusal : Option (List ℕ) → List ℕ → TreeValue → Option Refusal
rename_refusal was name t = renaming_refusal (renamed_space was t) name t

abbrev pub renamed : Option ConId → List ℕ → TreeValue → TreeValue
renamed None name t = t
renamed (Some w) name t = edited w (edits.Name name) t

-- the workspace has the new name
abbrev pub rename_tree : Option (List ℕ) → List ℕ → TreeValue → TreeValue
rename_tree was name t = renamed (renamed_space was t) name t
