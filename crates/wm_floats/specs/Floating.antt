-- Windows float, and are tiled again.
use Rattle.std.specs.Prelude.{◌≡◌, true, false, if◌then◌else◌, Option, None, Some}
use Rattle.std.specs.Option.{option_or}
use Rattle.wm_base.specs.declared.errors.Refusal.{Refusal}
use Rattle.wm_base.specs.declared.geometry.Rect.{Rect}
use Rattle.wm_base.specs.declared.geometry.Size.{Size}
use Rattle.wm_base.specs.declared.ids.ConId.{ConId}
use Rattle.wm_base.specs.declared.plan.Border.{Border}
use Rattle.wm_floats.specs.Places.{held_middle, outer_size}
use Rattle.wm_floats.specs.Windows.{flag_set, natural_by, window_refusal}
use Rattle.wm_shared.specs.Refusing.{full_error}
use Rattle.wm_shared.specs.Rects.{output_part_of}
use Rattle.wm_forest.specs.declared.part.ConPart.{ConPart}
use Rattle.wm_forest.specs.declared.part.OutputPart.{OutputPart}
use Rattle.wm_forest.specs.declared.place.Place.{Place}
use Rattle.wm_forest.specs.declared.place.Place.TheVariants.{Float}
use Rattle.wm_tree.specs.Along.{nowhere}
use Rattle.wm_forest.specs.Look.{con_kind, has, kind_of}
use Rattle.wm_tree.specs.Move.{IsMove, moved, passed_by_move}
use Rattle.wm_forest.specs.Place.{named}
pub use Rattle.wm_tree.specs.TreeValue.{tiling_place}
use Rattle.wm_tree.specs.TreeValue.{TreeValue, is_tiled_con, workspace_of}

-- c is there, and so is the place to which it may move
abbrev pub IsGoal : ConId → Place → TreeValue → Type 0
IsGoal c p t = (has c t.nodes ≡ true) × (has (named p) t.nodes ≡ true) × IsMove c p t.nodes

-- the move passes no limit
abbrev pub moved_refusal : ConId → Place → TreeValue → Option Refusal
moved_refusal c p t = full_error (passed_by_move c p t.nodes)

-- ---- its rectangle

abbrev pub rect_or : Option Rect → Rect → Rect
rect_or None new = new
rect_or (Some r) new = r

-- the natural size with its border, at most the output's, in the middle of the output
abbrev pub new_rect : Option OutputPart → Border → Option Size → Rect
new_rect None b n = nowhere
new_rect (Some o) b None = nowhere
new_rect (Some o) b (Some n) = held_middle o.rect (outer_size b n o.rect)

abbrev pub floating_by : Option OutputPart → Option ConPart → Rect
floating_by o None = nowhere
floating_by o (Some p) = rect_or p.state.rect (new_rect o p.state.border (natural_by p.kind))

abbrev pub earlier_in : Option ConPart → Option Rect
earlier_in None = None
earlier_in (Some p) = p.state.rect

-- the outer rectangle of a floating window, or the earlier one of a window that floated
abbrev pub earlier : ConId → TreeValue → Option Rect
earlier c t = earlier_in (kind_of con_kind c t.nodes)

-- the outer rectangle with which c floats: the one that it had when it floated earlier, or else a new one
abbrev pub floating_rect : ConId → TreeValue → Rect
floating_rect c t = floating_by (output_part_of c t) (kind_of con_kind c t.nodes)

-- ---- floating

abbrev pub floated : ConId → Option ConId → TreeValue → TreeValue
floated c None t = t
floated c (Some w) t = if is_tiled_con t c then moved c (Float w (floating_rect c t)) t else t

abbrev pub floated_refusal : ConId → Option ConId → TreeValue → Option Refusal
floated_refusal c None t = None
floated_refusal c (Some w) t = if is_tiled_con t c then moved_refusal c (Float w (floating_rect c t)) t else None

-- a tiled window comes last among the floating windows of its workspace; a floating one stays as it is
abbrev pub float_tree : ConId → TreeValue → TreeValue
float_tree c t = floated c (workspace_of t c) t

abbrev pub float_refusal : ConId → TreeValue → Option Refusal
float_refusal c t = option_or (window_refusal c t) (floated_refusal c (workspace_of t c) t)

-- ---- tiling

abbrev pub sunk : ConId → Option ConId → TreeValue → TreeValue
sunk c None t = t
sunk c (Some w) t = if is_tiled_con t c then t else flag_set false c (moved c (tiling_place w t) t)

abbrev pub sunk_refusal : ConId → Option ConId → TreeValue → Option Refusal
sunk_refusal c None t = None
sunk_refusal c (Some w) t = if is_tiled_con t c then None else moved_refusal c (tiling_place w t) t

-- a floating window is tiled in its workspace, and no longer flagged for the scratchpad; a tiled one stays as it is
abbrev pub sink_tree : ConId → TreeValue → TreeValue
sink_tree c t = sunk c (workspace_of t c) t

abbrev pub sink_refusal : ConId → TreeValue → Option Refusal
sink_refusal c t = option_or (window_refusal c t) (sunk_refusal c (workspace_of t c) t)
