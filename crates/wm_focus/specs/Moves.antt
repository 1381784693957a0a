-- Moving a container in a direction.
use Rattle.std.specs.Prelude.{◌≡◌, ℕ, Bool, true, false, if◌then◌else◌, Option, None, Some, option_and_then}
use Rattle.wm_base.specs.declared.errors.ErrorText.TheVariants as texts
use Rattle.wm_base.specs.declared.errors.Refusal.{Refusal}
use Rattle.wm_base.specs.declared.errors.Refusal.TheVariants.{NoTarget}
use Rattle.wm_base.specs.declared.geometry.Dir.{Dir}
use Rattle.wm_base.specs.declared.ids.ConId.{ConId}
use Rattle.wm_floats.specs.Rounds.{shift_refusal, shift_tree}
use Rattle.wm_focus.specs.declared.rungs.Aim.TheVariants.{Beside, Out}
use Rattle.wm_shared.specs.Outputs.{output_from}
use Rattle.wm_shared.specs.Refusing.{error_if, full_error}
use Rattle.wm_shared.specs.Showing.{entered, remembering, shown_on}
use Rattle.wm_focus.specs.Rungs.{aimed, nearest, rung, runs_con}
use Rattle.wm_shared.specs.Neighbours.{is_forward}
use Rattle.wm_shared.specs.Subject.{is_hidden, is_space}
use Rattle.wm_focus.specs.Swaps.{deep_error}
use Rattle.wm_forest.specs.declared.kind.KindEdit.TheVariants as edits
use Rattle.wm_forest.specs.declared.part.ConPart.{ConPart}
use Rattle.wm_forest.specs.declared.place.Place.{Place}
use Rattle.wm_forest.specs.declared.place.Place.TheVariants.{After, Before, First, Last}
use Rattle.wm_forest.specs.Change.{is_split}
use Rattle.wm_forest.specs.Forest.{Forest, end, con}
use Rattle.wm_forest.specs.Look.{con_kind, has, kind_of, only}
use Rattle.wm_tree.specs.Move.{IsExchange, IsMove, exchanged, is_too_deep, moved, passed_by_move, share_in}
use Rattle.wm_forest.specs.Place.{named}
use Rattle.wm_tree.specs.TreeValue.{TreeValue, focused_child, is_tiled_con, parent}
use Rattle.wm_tree.specs.Words.{edited}

-- ---- who stands beside it

-- the neighbour of c on that side among the children of the first node, where that is along the axis of the direction
abbrev pub neighbour_below : Dir → ConId → Forest → Option ConId
neighbour_below d c end = None
neighbour_below d c (con part kids floats rest) = aimed Beside d (rung part.kind kids c)

-- the neighbour of c on that side, where its parent is along the axis of the direction
abbrev pub beside : Dir → ConId → TreeValue → Option ConId
beside d c t = option_and_then (λ p. neighbour_below d c (only p t.nodes)) (parent t c)

abbrev pub is_split_part : Option ConPart → Bool
is_split_part None = false
is_split_part (Some part) = is_split part.kind

abbrev pub is_split_con : TreeValue → ConId → Bool
is_split_con t n = is_split_part (kind_of con_kind n t.nodes)

abbrev pub runs_part : Dir → Option ConPart → Bool
runs_part d None = false
runs_part d (Some part) = runs_con d part.kind

-- n is a split along the axis of the direction
abbrev pub runs_split : Dir → ConId → TreeValue → Bool
runs_split d n t = runs_part d (kind_of con_kind n t.nodes)

-- ---- where it goes

-- the place in a split after its child, or the first one where it has none
abbrev pub after_child : ConId → Option ConId → Place
after_child n None = First n
after_child n (Some child) = After child

-- the place in a split at the end where c comes in
abbrev pub near_end : Dir → ConId → Place
near_end d n = if is_forward d then First n else Last n

-- the place in the split n: at its near end where it is along the axis, else after its focused child
abbrev pub entry : Dir → ConId → TreeValue → Place
entry d n t = if runs_split d n t then near_end d n else after_child n (focused_child t n)

-- the place beside a child on that side
abbrev pub side_of : Dir → ConId → Place
side_of d child = if is_forward d then After child else Before child

-- at the nearest node above the parent of c along the axis, the child that holds c
abbrev pub held_out : Dir → ConId → TreeValue → Option ConId
held_out d c t = option_and_then (λ p. nearest Out d p t.nodes) (parent t c)

-- ---- moving

-- both are there and tiled, and neither is below the other
abbrev pub IsTurn : ConId → ConId → TreeValue → Type 0
IsTurn c n t = (has c t.nodes ≡ true) × (has n t.nodes ≡ true) × IsExchange c n t.nodes

-- c is there, and so is the place to which it may move
abbrev pub IsGoal : ConId → Place → TreeValue → Type 0
IsGoal c p t = (has c t.nodes ≡ true) × (has (named p) t.nodes ≡ true) × IsMove c p t.nodes

-- the two change places, each with its share
abbrev pub turned : ConId → ConId → TreeValue → TreeValue
turned c n t = edited n (edits.Share (share_in n t.nodes)) (edited c (edits.Share (share_in c t.nodes)) (exchanged c n t))

-- what the output in that direction shows
abbrev pub space_over : Dir → ConId → TreeValue → Option ConId
space_over d c t = option_and_then (λ (o : ConId). shown_on o t) (output_from d c t)

-- no limit is passed where c goes to the place
abbrev pub move_refusal : ConId → Place → TreeValue → Option Refusal
move_refusal c p t = full_error (passed_by_move c p t.nodes)

-- neither comes too deep where the two change places
abbrev pub turn_refusal : ConId → ConId → TreeValue → Option Refusal
turn_refusal c n t = deep_error (is_too_deep c n t.nodes)

abbrev pub over_refusal : Dir → ConId → Option ConId → TreeValue → Option Refusal
over_refusal d c None t = Some (NoTarget texts.NoNeighbour)
over_refusal d c (Some w) t = move_refusal c (near_end d w) t

-- there is an output in that direction, and no limit is passed where c goes to what it shows
abbrev pub cross_refusal : Dir → ConId → TreeValue → Option Refusal
cross_refusal d c t = over_refusal d c (space_over d c t) t

abbrev pub out_refusal : Dir → ConId → Option ConId → TreeValue → Option Refusal
out_refusal d c None t = cross_refusal d c t
out_refusal d c (Some child) t = move_refusal c (side_of d child) t

-- there is a node above along the axis or an output in that direction, and no limit is passed where c goes there
abbrev pub leave_refusal : Dir → ConId → TreeValue → Option Refusal
leave_refusal d c t = out_refusal d c (held_out d c t) t

abbrev pub step_refusal : Dir → ConId → Option ConId → TreeValue → Option Refusal
step_refusal d c None t = leave_refusal d c t
step_refusal d c (Some n) t = if is_split_con t n then move_refusal c (entry d n t) t else turn_refusal c n t

-- one in the scratchpad has no workspace, and a workspace does not move; no limit is passed, and there is a neighbour, a
-- node above or an output to go to; a floating window stays within the range of places
abbrev pub move_dir_refusal : ConId → Dir → ℕ → TreeValue → Option Refusal
move_dir_refusal c d px t =
    error_if (is_hidden t c) texts.NoWorkspace (error_if (is_space t c) texts.AtWorkspace
    (if is_tiled_con t c then step_refusal d c (beside d c t) t else shift_refusal c d px t))

-- at the near end of that workspace, whose output becomes the current one
abbrev pub over_tree : Dir → ConId → Option ConId → TreeValue → TreeValue
over_tree d c None t = t
over_tree d c (Some w) t = remembering t (entered c (moved c (near_end d w) t))

-- at the near end of what the output in that direction shows
abbrev pub cross_tree : Dir → ConId → TreeValue → TreeValue
cross_tree d c t = over_tree d c (space_over d c t) t

abbrev pub out_tree : Dir → ConId → Option ConId → TreeValue → TreeValue
out_tree d c None t = cross_tree d c t
out_tree d c (Some child) t = moved c (side_of d child) t

-- beside the child that holds it of the nearest node above along the axis, or over to another output
abbrev pub leave_tree : Dir → ConId → TreeValue → TreeValue
leave_tree d c t = out_tree d c (held_out d c t) t

abbrev pub step_tree : Dir → ConId → Option ConId → TreeValue → TreeValue
step_tree d c None t = leave_tree d c t
step_tree d c (Some n) t = if is_split_con t n then moved c (entry d n t) t else turned c n t

-- c changes places with a window or placeholder beside it, goes into a split beside it, out of its parent, or to the
-- output in that direction; a floating window goes so many pixels
abbrev pub move_dir_tree : ConId → Dir → ℕ → TreeValue → TreeValue
move_dir_tree c d px t = if is_tiled_con t c then step_tree d c (beside d c t) t else shift_tree c d px t
