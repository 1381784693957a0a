-- A law of moving workspaces to other outputs.
use Rattle.std.specs.Prelude.{◌≡◌, ◌≢◌, true, List, [], ◌∷◌, ◌++◌, Option, None, Some}
use Rattle.law_workspaces.specs.Shown.{IsOnShow, IsRemembered}
use Rattle.wm_base.specs.declared.ids.ConId.{ConId}
use Rattle.wm_shared.specs.Showing.{shown_on}
use Rattle.wm_shared.specs.Subject.{is_space}
use Rattle.wm_spaces.specs.Moving.{move_workspace_refusal, move_workspace_tree}
use Rattle.wm_spaces.specs.Targets.{spaces_of}
use Rattle.wm_forest.specs.Forest.{Forest, end, con}
use Rattle.wm_forest.specs.Look.{in_row}
use Rattle.wm_tree.specs.Outputs.{IsOutput}
use Rattle.wm_tree.specs.Sound.{IsSound}
use Rattle.wm_tree.specs.TreeValue.{TreeValue, parent}

-- the ids of a row, in its order
abbrev pub row_ids : Forest → List ConId
row_ids end = []
row_ids (con part kids floats rest) = part.id ∷ row_ids rest

-- what is shown is one of the row
abbrev pub IsOfRow : Option ConId → Forest → Type 0
IsOfRow None row = ⊥
IsOfRow (Some w) row = in_row w row ≡ true

-- the output o is there, and shows one of its own workspaces
abbrev pub ShowsOwn : ConId → TreeValue → Type 0
ShowsOwn o t = IsOutput o t.nodes × IsOfRow (shown_on o t) (spaces_of o t)

-- the workspace w has come from the output p to the output o: it is the last one there, behind those that were there, in
-- their order, and is shown on it; p and each other output shows one of its own; the previous name is that of the workspace
-- that was focused, where that was another one
pub record HasMoved (w p o : ConId) (old new : TreeValue) : Type 0 where
  pub last : row_ids (spaces_of o new) ≡ row_ids (spaces_of o old) ++ w ∷ []
  pub shown : IsOnShow w o new
  pub remembered : IsRemembered w old new
  pub left : ShowsOwn p new
  pub each : (q : ConId) → IsOutput q new.nodes → ShowsOwn q new

-- after `move workspace to output` from another output, where that is not refused, the workspace is the last one of the
-- output, which shows it and is the current one, and the output that it left shows one of its own workspaces
abbrev pub MovesSpace : Type 0
MovesSpace =
    (w p o : ConId) (t : TreeValue) → IsSound t → is_space t w ≡ true → IsOutput o t.nodes → parent t w ≡ Some p → p ≢ o → move_workspace_refusal w o t ≡ None
    → HasMoved w p o t (move_workspace_tree w o t)
