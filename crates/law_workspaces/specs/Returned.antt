-- A law of going back to the previous workspace.
use Rattle.std.specs.Prelude.{◌≡◌, ◌≢◌, ℕ, false, List, Some}
use Rattle.law_workspaces.specs.Renamed.{SpaceNamesDiffer}
use Rattle.wm_base.specs.declared.ids.ConId.{ConId}
use Rattle.wm_language.specs.declared.arguments.Target.{Target}
use Rattle.wm_language.specs.declared.arguments.Target.TheVariants as targets
use Rattle.wm_shared.specs.Showing.{space_name}
use Rattle.wm_spaces.specs.declared.targets.Goal.TheVariants.{There}
use Rattle.wm_spaces.specs.Names.{is_reserved}
use Rattle.wm_spaces.specs.Shows.{show_tree}
use Rattle.wm_spaces.specs.Targets.{goal_of}
use Rattle.wm_tree.specs.Sound.{IsSound}
use Rattle.wm_tree.specs.TreeValue.{TreeValue, shown}

-- where the names of workspaces differ, `workspace` of another one that is there and then `workspace back_and_forth` comes
-- to the workspace that was focused, if its name is not reserved, for which it would be refused. The tree between them
-- keeps all workspaces: where an empty one is taken away, a new one of its name is made
abbrev pub ComesBack : Type 0
ComesBack =
    (target : Target) (homes : List (List ℕ × List ℕ)) (w : ConId) (n : List ℕ) (t : TreeValue) → IsSound t → SpaceNamesDiffer t → goal_of target t ≡ There w → shown t ≢ w
    → space_name (shown t) t ≡ Some n → is_reserved n ≡ false → shown (show_tree targets.BackAndForth homes (show_tree target homes t)) ≡ shown t
