-- Sending containers to other workspaces.
use Rattle.std.specs.Prelude.{ℕ, ◌+ℤ◌, ◌-ℤ◌, not, if◌then◌else◌, List, Option, None, Some}
use Rattle.std.specs.Option.{option_or}
use Rattle.wm_base.specs.declared.errors.ErrorText.TheVariants as texts
use Rattle.wm_base.specs.declared.errors.Refusal.{Refusal}
use Rattle.wm_base.specs.declared.errors.Refusal.TheVariants.{NoTarget}
use Rattle.wm_base.specs.declared.geometry.Rect.{Rect}
use Rattle.wm_base.specs.declared.ids.ConId.{ConId}
use Rattle.wm_language.specs.declared.arguments.Target.{Target}
use Rattle.wm_shared.specs.Rects.{held, output_part_of, rect_of}
use Rattle.wm_shared.specs.Refusing.{error_if, full_error}
use Rattle.wm_shared.specs.Showing.{shown_on}
use Rattle.wm_shared.specs.Subject.{is_hidden, is_space}
use Rattle.wm_spaces.specs.declared.targets.Goal.{Goal}
use Rattle.wm_spaces.specs.declared.targets.Goal.TheVariants.{There, Absent, Refused}
use Rattle.wm_spaces.specs.Targets.{goal_of, home}
use Rattle.wm_forest.specs.declared.part.OutputPart.{OutputPart}
use Rattle.wm_forest.specs.declared.place.Place.{Place}
use Rattle.wm_forest.specs.declared.place.Place.TheVariants.{Float}
use Rattle.wm_tree.specs.Move.{apart, moved, passed_by_move}
use Rattle.wm_tree.specs.Outputs.{passed_by_space, with_space}
use Rattle.wm_tree.specs.TreeValue.{TreeValue, is_tiled_con, tiling_place}
use Rattle.wm_forest.specs.RootId.{id}

-- ---- rectangles

-- the rectangle on another output: shifted by the difference of their places
abbrev pub shifted : Option OutputPart → Option OutputPart → Rect → Rect
shifted None to r = r
shifted (Some a) None r = r
shifted (Some a) (Some b) r = record { x = held (r.x +ℤ (b.rect.x -ℤ a.rect.x)); y = held (r.y +ℤ (b.rect.y -ℤ a.rect.y)); w = r.w; h = r.h }

-- ---- sending

-- a tiled container comes after the leaf of the workspace, or last where nothing is tiled there; a floating one, or one
-- of the scratchpad, comes last among its floating windows, shifted by the difference of the outputs' places
abbrev pub sent_place : ConId → ConId → TreeValue → Place
sent_place c w t =
    if not (is_tiled_con t c) then Float w (shifted (output_part_of c t) (output_part_of w t) (rect_of c t))
    else tiling_place w t

-- the container comes to the workspace, if it is not there
abbrev pub sent : ConId → ConId → TreeValue → TreeValue
sent c w t = if apart t c w then moved c (sent_place c w t) t else t

abbrev pub sent_refusal : ConId → ConId → TreeValue → Option Refusal
sent_refusal c w t = if apart t c w then full_error (passed_by_move c (sent_place c w t) t.nodes) else None

abbrev pub sent_some : Option ConId → ConId → TreeValue → TreeValue
sent_some None c t = t
sent_some (Some w) c t = sent c w t

abbrev pub sent_some_refusal : Option ConId → ConId → TreeValue → Option Refusal
sent_some_refusal None c t = None
sent_some_refusal (Some w) c t = sent_refusal c w t

-- ---- sending to an output

-- one in the scratchpad has no workspace, and a workspace is not sent
abbrev pub send_to_output_refusal : ConId → ConId → TreeValue → Option Refusal
send_to_output_refusal c o t =
    error_if (is_hidden t c) texts.NoWorkspace (error_if (is_space t c) texts.AtWorkspace (sent_some_refusal (shown_on o t) c t))

-- the container comes to the workspace that the output shows
abbrev pub send_to_output_tree : ConId → ConId → TreeValue → TreeValue
send_to_output_tree c o t = sent_some (shown_on o t) c t

-- ---- sending to a workspace

-- the container comes to a new workspace of this name on the output o
abbrev pub sent_new : ConId → ConId → List ℕ → TreeValue → TreeValue
sent_new c o n t = sent c (id t.next_id) (with_space o n t)

abbrev pub sent_new_refusal : ConId → ConId → List ℕ → TreeValue → Option Refusal
sent_new_refusal c o n t = option_or (full_error (passed_by_space t.nodes t.next_id)) (sent_refusal c (id t.next_id) (with_space o n t))

abbrev pub goal_sent : Goal → ConId → List (List ℕ × List ℕ) → TreeValue → TreeValue
goal_sent (There w) c homes t = sent c w t
goal_sent (Absent n) c homes t = sent_new c (home n homes t) n t
goal_sent (Refused text) c homes t = t

abbrev pub goal_sent_refusal : Goal → ConId → List (List ℕ × List ℕ) → TreeValue → Option Refusal
goal_sent_refusal (There w) c homes t = sent_refusal c w t
goal_sent_refusal (Absent n) c homes t = sent_new_refusal c (home n homes t) n t
goal_sent_refusal (Refused text) c homes t = Some (NoTarget text)

-- a workspace is not sent; a new workspace, and then the container in it, pass no limit
abbrev pub send_to_refusal : ConId → Target → List (List ℕ × List ℕ) → TreeValue → Option Refusal
send_to_refusal c target homes t = error_if (is_space t c) texts.AtWorkspace (goal_sent_refusal (goal_of target t) c homes t)

-- the container comes to the workspace, which is made where it is not there
abbrev pub send_to_tree : ConId → Target → List (List ℕ × List ℕ) → TreeValue → TreeValue
send_to_tree c target homes t = goal_sent (goal_of target t) c homes t
