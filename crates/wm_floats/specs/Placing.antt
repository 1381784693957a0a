-- Moving floating windows about on the screen.
use Rattle.std.specs.Prelude.{ℤ, ◌+ℤ◌, ◌&&◌, not, Option, None, Some}
use Rattle.wm_base.specs.declared.errors.ErrorText.TheVariants as texts
use Rattle.wm_base.specs.declared.errors.Refusal.{Refusal}
use Rattle.wm_base.specs.declared.geometry.Rect.{Rect}
use Rattle.wm_base.specs.declared.ids.ConId.{ConId}
use Rattle.wm_floats.specs.Places.{is_in_range, middle_of}
use Rattle.wm_floats.specs.Windows.{rect_set}
use Rattle.wm_shared.specs.Refusing.{error_if}
use Rattle.wm_shared.specs.Subject.{is_hidden, is_space}
use Rattle.wm_shared.specs.Rects.{output_part_of, rect_of}
use Rattle.wm_forest.specs.declared.part.OutputPart.{OutputPart}
use Rattle.wm_tree.specs.TreeValue.{TreeValue, is_tiled_con}

-- one in the scratchpad has no workspace, a workspace and a tiled container do not float, and the place is in range
abbrev pub place_at_refusal : ConId → ℤ → ℤ → TreeValue → Option Refusal
place_at_refusal c x y t =
    error_if (is_hidden t c) texts.NoWorkspace (error_if (is_space t c) texts.AtWorkspace
    (error_if (is_tiled_con t c) texts.NotFloating (error_if (not (is_in_range x && is_in_range y)) texts.OutOfRange None)))

-- the outer rectangle of c is at this place and has the size that it had
abbrev pub place_at_tree : ConId → ℤ → ℤ → TreeValue → TreeValue
place_at_tree c x y t = rect_set (record { x = x; y = y; w = (rect_of c t).w; h = (rect_of c t).h }) c t

-- ---- by so many pixels

abbrev pub move_by_refusal : ConId → ℤ → ℤ → TreeValue → Option Refusal
move_by_refusal c dx dy t = place_at_refusal c ((rect_of c t).x +ℤ dx) ((rect_of c t).y +ℤ dy) t

abbrev pub move_by_tree : ConId → ℤ → ℤ → TreeValue → TreeValue
move_by_tree c dx dy t = place_at_tree c ((rect_of c t).x +ℤ dx) ((rect_of c t).y +ℤ dy) t

-- ---- to the middle of the output

abbrev pub middle_x : Option OutputPart → Rect → ℤ
middle_x None r = r.x
middle_x (Some o) r = middle_of o.rect.x o.rect.w r.w

abbrev pub middle_y : Option OutputPart → Rect → ℤ
middle_y None r = r.y
middle_y (Some o) r = middle_of o.rect.y o.rect.h r.h

abbrev pub centre_refusal : ConId → TreeValue → Option Refusal
centre_refusal c t = place_at_refusal c (middle_x (output_part_of c t) (rect_of c t)) (middle_y (output_part_of c t) (rect_of c t)) t

abbrev pub centre_tree : ConId → TreeValue → TreeValue
centre_tree c t = place_at_tree c (middle_x (output_part_of c t) (rect_of c t)) (middle_y (output_part_of c t) (rect_of c t)) t
