-- Appending the saved layout of a name to the focused workspace.
use Rattle.std.specs.Prelude.{ℕ, if◌then◌else◌, List, [], ◌∷◌, Option, None, Some}
use Rattle.std.specs.Str.{bytes_eq}
use Rattle.wm_base.specs.declared.errors.ErrorText.TheVariants as errors
use Rattle.wm_base.specs.declared.errors.Refusal.{Refusal}
use Rattle.wm_base.specs.declared.errors.Refusal.TheVariants.{NoTarget}
use Rattle.wm_saved.specs.declared.saved.SavedLayout.{SavedLayout}
use Rattle.wm_saved.specs.Limits.{is_fit}
use Rattle.wm_shared.specs.Refusing.{full_error}
use Rattle.wm_swallow.specs.Appending.{appended}
use Rattle.wm_swallow.specs.Limits.{passed_by_append}
use Rattle.wm_swallow.specs.SavedRows.{rows}
use Rattle.wm_tree.specs.TreeValue.{TreeValue, shown}

-- a layout whose borders and marks are within their limits, as those of a sound plan are; any other is none
abbrev pub if_fit : SavedLayout → Option SavedLayout
if_fit layout = if is_fit layout then Some layout else None

-- the first layout of this name
abbrev pub layout_named : List ℕ → List (List ℕ × SavedLayout) → Option SavedLayout
layout_named name [] = None
layout_named name (layout ∷ layouts) = if bytes_eq layout.0 name then if_fit layout.1 else layout_named name layouts

-- why the layout is not appended: there is none of the name, or it would pass a limit
abbrev pub append_refusal : Option SavedLayout → TreeValue → Option Refusal
append_refusal None t = Some (NoTarget errors.NoLayout)
append_refusal (Some layout) t = full_error (passed_by_append (shown t) (rows layout.trees) t)

-- the layout's containers come last into the focused workspace
abbrev pub append_tree : Option SavedLayout → TreeValue → TreeValue
append_tree None t = t
append_tree (Some layout) t = appended (shown t) (rows layout.trees) t
