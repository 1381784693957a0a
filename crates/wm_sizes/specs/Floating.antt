-- Sizes of floating windows.
use Rattle.std.specs.Prelude.{ℕ, ℤ, pos, negsuc, ◌≤ℤ◌, ◌+ℤ◌, ◌-ℤ◌, nat_abs, nat_le, int_le, Bool, true, false, ◌&&◌, not, Option, None}
use Rattle.wm_base.specs.declared.errors.ErrorText.TheVariants as texts
use Rattle.wm_base.specs.declared.errors.Refusal.{Refusal}
use Rattle.wm_base.specs.declared.geometry.Dir.TheVariants.{Left, Right, Up, Down}
use Rattle.wm_base.specs.declared.geometry.Rect.{Rect}
use Rattle.wm_base.specs.declared.ids.ConId.{ConId}
use Rattle.wm_language.specs.declared.arguments.Side.{Side}
use Rattle.wm_language.specs.declared.arguments.Side.TheVariants.{Width, Height, At}
use Rattle.wm_shared.specs.Refusing.{error_if}
use Rattle.wm_shared.specs.Subject.{is_hidden, is_space}
use Rattle.wm_sizes.specs.declared.floating.Frame.{Frame}
use Rattle.wm_shared.specs.Rects.{is_in_range, rect_of}
use Rattle.wm_shared.specs.Windows.{rect_set}
use Rattle.wm_tree.specs.TreeValue.{TreeValue, is_tiled_con}

-- ---- a size that is given

-- a length in pixels that a window's side may have
abbrev pub is_size : ℕ → Bool
is_size n = nat_le 1 n && nat_le n 16384

-- one in the scratchpad has no workspace, a workspace and a tiled container do not float, and both sides may be so long
abbrev pub resize_set_refusal : ConId → ℕ → ℕ → TreeValue → Option Refusal
resize_set_refusal c w h t =
    error_if (is_hidden t c) texts.NoWorkspace (error_if (is_space t c) texts.AtWorkspace
    (error_if (is_tiled_con t c) texts.NotFloating (error_if (not (is_size w && is_size h)) texts.OutOfRange None)))

-- the outer rectangle of c has this size and the place that it had
abbrev pub resize_set_tree : ConId → ℕ → ℕ → TreeValue → TreeValue
resize_set_tree c w h t = rect_set (record { x = (rect_of c t).x; y = (rect_of c t).y; w = w; h = h }) c t

-- ---- growing and shrinking

-- by how many pixels a side becomes longer
abbrev pub step : Bool → ℕ → ℤ
step true px = pos px
step false px = pos 0 -ℤ pos px

-- as many pixels as a command names, or as many fewer
pub record IsStep (by : ℤ) : Type 0 where
  pub low : negsuc 4294967295 ≤ℤ by
  pub high : by ≤ℤ pos 4294967296

-- the frame of a rectangle that becomes longer at that side: `width` and `right` act at the right, `height` and `down`
-- below, and `left` and `up` move the place
abbrev pub grown : Side → ℤ → Rect → Frame
grown Width by r = record { x = r.x; y = r.y; w = pos r.w +ℤ by; h = pos r.h }
grown Height by r = record { x = r.x; y = r.y; w = pos r.w; h = pos r.h +ℤ by }
grown (At Left) by r = record { x = r.x -ℤ by; y = r.y; w = pos r.w +ℤ by; h = pos r.h }
grown (At Right) by r = record { x = r.x; y = r.y; w = pos r.w +ℤ by; h = pos r.h }
grown (At Up) by r = record { x = r.x; y = r.y -ℤ by; w = pos r.w; h = pos r.h +ℤ by }
grown (At Down) by r = record { x = r.x; y = r.y; w = pos r.w; h = pos r.h +ℤ by }

-- a length that a window's side may have
abbrev pub is_side : ℤ → Bool
is_side z = int_le (pos 1) z && int_le z (pos 16384)

abbrev pub has_sides : Frame → Bool
has_sides f = is_side f.w && is_side f.h

abbrev pub has_place : Frame → Bool
has_place f = is_in_range f.x && is_in_range f.y

-- both sides and the place are within their limits
abbrev pub fits : Frame → Bool
fits f = has_sides f && has_place f

-- a frame that fits as a window's rectangle
abbrev pub as_rect : Frame → Rect
as_rect f = record { x = f.x; y = f.y; w = nat_abs f.w; h = nat_abs f.h }

abbrev pub grow_refusal : ConId → Side → ℤ → TreeValue → Option Refusal
grow_refusal c side by t = error_if (not (fits (grown side by (rect_of c t)))) texts.OutOfRange None

-- the outer rectangle of the floating window c is longer at that side
abbrev pub grow_tree : ConId → Side → ℤ → TreeValue → TreeValue
grow_tree c side by t = rect_set (as_rect (grown side by (rect_of c t))) c t
