-- Places and sizes of windows in pixels, as plain numbers.
use Rattle.std.specs.Prelude.{ℕ, ◌+◌, ◌*◌, min, ℤ, pos, ◌+ℤ◌, ◌-ℤ◌}
use Rattle.std.specs.Int.{int_div_euclid}
use Rattle.wm_base.specs.declared.geometry.Rect.{Rect}
use Rattle.wm_base.specs.declared.geometry.Size.{Size}
use Rattle.wm_base.specs.declared.plan.Border.{Border}
use Rattle.wm_base.specs.declared.plan.Border.TheVariants.{Normal, Pixel, Bare}
pub use Rattle.wm_shared.specs.Rects.{is_in_range}
use Rattle.wm_shared.specs.Rects.{held}

-- where a span of this length begins in the middle of one that begins at `start` and is as long as `room`: half of what is
-- left is before it, rounded down, also where the span is the longer one
abbrev pub middle_of : ℤ → ℕ → ℕ → ℤ
middle_of start room length = start +ℤ int_div_euclid (pos room -ℤ pos length) (pos 2)

-- how much wider a window is with its border
abbrev pub border_width : Border → ℕ
border_width (Normal n) = 2 * n
border_width (Pixel n) = 2 * n
border_width Bare = 0

-- how much higher a window is with its border: a title is 20 pixels high, and stands for the upper edge
abbrev pub border_height : Border → ℕ
border_height (Normal n) = n + 20
border_height (Pixel n) = 2 * n
border_height Bare = 0

-- a natural size with its border, at most that of the output
abbrev pub outer_size : Border → Size → Rect → Size
outer_size b s o = record { w = min (s.w + border_width b) o.w; h = min (s.h + border_height b) o.h }

-- the rectangle of this size in the middle of another one, at the nearest place that is in range
abbrev pub held_middle : Rect → Size → Rect
held_middle o s = record { x = held (middle_of o.x o.w s.w); y = held (middle_of o.y o.h s.h); w = s.w; h = s.h }
