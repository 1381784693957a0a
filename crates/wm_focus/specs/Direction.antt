-- Focusing in a direction.
use Rattle.std.specs.Prelude.{◌≡◌, true, if◌then◌else◌, Option, None, Some, is_none}
use Rattle.wm_base.specs.declared.errors.ErrorText.TheVariants as texts
use Rattle.wm_base.specs.declared.errors.Refusal.{Refusal}
use Rattle.wm_base.specs.declared.geometry.Dir.{Dir}
use Rattle.wm_base.specs.declared.ids.ConId.{ConId}
use Rattle.wm_floats.specs.declared.kinds.Kind.TheVariants as kinds
use Rattle.wm_floats.specs.Kinds.{is_of}
use Rattle.wm_floats.specs.Rounds.{focus_round_refusal, focus_round_tree}
use Rattle.wm_focus.specs.declared.direction.Goal.{Goal}
use Rattle.wm_focus.specs.declared.direction.Goal.TheVariants as goals
use Rattle.wm_focus.specs.declared.rungs.Aim.TheVariants.{Around, Beside}
use Rattle.wm_focus.specs.Rungs.{nearest}
use Rattle.wm_shared.specs.Outputs.{output_from}
use Rattle.wm_shared.specs.Refusing.{error_if}
use Rattle.wm_shared.specs.Showing.{focusing, output_focused}
use Rattle.wm_shared.specs.Subject.{is_hidden}
use Rattle.wm_forest.specs.Look.{first_kids, in_row}
use Rattle.wm_tree.specs.TreeValue.{TreeValue, leaf}

abbrev pub round_goal : Option ConId → Option Goal
round_goal None = None
round_goal (Some n) = Some (goals.Node n)

abbrev pub output_goal : Option ConId → Option ConId → Option Goal
output_goal None around = round_goal around
output_goal (Some o) around = Some (goals.Output o)

abbrev pub first_goal : Option ConId → Option ConId → Option ConId → Option Goal
first_goal None output around = output_goal output around
first_goal (Some n) output around = Some (goals.Node n)

-- where to go: at the nearest node above c along the axis in which there is a neighbour on that side, to that neighbour;
-- else to the output in that direction; else, at the nearest one with two or more children, to the child at the other
-- end
abbrev pub goal_of : Dir → ConId → TreeValue → Option Goal
goal_of d c t = first_goal (nearest Beside d c t.nodes) (output_from d c t) (nearest Around d c t.nodes)

-- an output to which to go is one of the root's
abbrev pub IsListed : Option Goal → TreeValue → Type 0
IsListed None t = Unit {0}
IsListed (Some (goals.Node n)) t = Unit {0}
IsListed (Some (goals.Output o)) t = in_row o (first_kids t.nodes) ≡ true

-- one in the scratchpad has no workspace; and where there is nothing to go to, or no other floating window, nothing is
-- focused
abbrev pub focus_dir_refusal : ConId → Dir → TreeValue → Option Refusal
focus_dir_refusal c d t =
    if is_of kinds.Floating t c then focus_round_refusal c d t
    else error_if (is_hidden t c) texts.NoWorkspace (error_if (is_none (goal_of d c t)) texts.NoNeighbour None)

-- the container is focused, where there is one
abbrev pub focusing_some : Option ConId → TreeValue → TreeValue
focusing_some None t = t
focusing_some (Some c) t = focusing c t

-- from a node on the leaf is focused, by the focused child until there is none; an output becomes the current one
abbrev pub gone_to : Option Goal → TreeValue → TreeValue
gone_to None t = t
gone_to (Some (goals.Node n)) t = focusing_some (leaf t n) t
gone_to (Some (goals.Output o)) t = output_focused o t

-- from a floating window the next one by id is focused
abbrev pub focus_dir_tree : ConId → Dir → TreeValue → TreeValue
focus_dir_tree c d t = if is_of kinds.Floating t c then focus_round_tree c d t else gone_to (goal_of d c t) t
