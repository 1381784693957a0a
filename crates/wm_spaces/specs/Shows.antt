-- Showing the workspace that a command names.
use Rattle.std.specs.Prelude.{ℕ, List, Option, None, Some}
use Rattle.wm_base.specs.declared.errors.Refusal.{Refusal}
use Rattle.wm_base.specs.declared.errors.Refusal.TheVariants.{NoTarget}
use Rattle.wm_base.specs.declared.ids.ConId.{ConId}
use Rattle.wm_language.specs.declared.arguments.Target.{Target}
use Rattle.wm_shared.specs.Refusing.{full_error}
use Rattle.wm_shared.specs.Showing.{remembering, showing, shown_there}
use Rattle.wm_spaces.specs.declared.targets.Goal.{Goal}
use Rattle.wm_spaces.specs.declared.targets.Goal.TheVariants.{There, Absent, Refused}
use Rattle.wm_spaces.specs.Targets.{goal_of, home}
use Rattle.wm_tree.specs.Outputs.{passed_by_space, with_space}
use Rattle.wm_tree.specs.TreeValue.{TreeValue, parent}
use Rattle.wm_forest.specs.RootId.{id}

-- the tree `new`, which has the workspace w, shows it; the name of the workspace that was focused is kept
abbrev pub then_shown : ConId → TreeValue → TreeValue → TreeValue
then_shown w old new = remembering old (shown_there w (parent new w) new)

-- a new workspace of this name on the output o is shown
abbrev pub showing_new : ConId → List ℕ → TreeValue → TreeValue
showing_new o n t = then_shown (id t.next_id) t (with_space o n t)

-- a new workspace passes no limit
abbrev pub new_space_refusal : TreeValue → Option Refusal
new_space_refusal t = full_error (passed_by_space t.nodes t.next_id)

abbrev pub goal_shown : Goal → List (List ℕ × List ℕ) → TreeValue → TreeValue
goal_shown (There w) homes t = showing w t
goal_shown (Absent n) homes t = showing_new (home n homes t) n t
goal_shown (Refused text) homes t = t

-- a workspace that is not there passes no limit
abbrev pub goal_refusal : Goal → TreeValue → Option Refusal
goal_refusal (There w) t = None
goal_refusal (Absent n) t = new_space_refusal t
goal_refusal (Refused text) t = Some (NoTarget text)

abbrev pub show_refusal : Target → TreeValue → Option Refusal
show_refusal target t = goal_refusal (goal_of target t) t

-- the workspace is shown, and made where it is not there
abbrev pub show_tree : Target → List (List ℕ × List ℕ) → TreeValue → TreeValue
show_tree target homes t = goal_shown (goal_of target t) homes t
