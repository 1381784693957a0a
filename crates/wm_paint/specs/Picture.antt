-- What a frame makes of each pixel.
use Rattle.std.specs.Prelude.{ℕ, Bool, ◌&&◌, if◌then◌else◌, ℤ, pos, ◌+ℤ◌, int_le, int_lt, List, [], ◌∷◌}
use Rattle.wm_base.specs.declared.geometry.Rect.{Rect}
use Rattle.wm_base.specs.declared.geometry.Size.{Size}
use Rattle.wm_base.specs.declared.ids.Ink.{Ink}
use Rattle.wm_paint.specs.declared.frame.Quad.{Quad}
use Rattle.wm_paint.specs.declared.frame.What.{What}
use Rattle.wm_paint.specs.declared.frame.What.TheVariants.{Back, Title, Border, Window}

abbrev pub black : Ink
black = record { 0 = 0 }

-- the place z is one of those from start on
abbrev pub in_span : ℤ → ℕ → ℤ → Bool
in_span start length z = int_le start z && int_lt z (start +ℤ pos length)

-- the pixel at this place is in the rectangle
abbrev pub covers : Rect → ℤ → ℤ → Bool
covers r x y = in_span r.x r.w x && in_span r.y r.h y

-- a buffer of this size, at the upper left corner of its content
abbrev pub at_corner : Rect → Size → Rect
at_corner r s = record { x = r.x; y = r.y; w = s.w; h = s.h }

-- the ink of a pixel that a part covers: black for a ground, the ink of a title or a border, and within a window's content the buffer's ink where the buffer is
abbrev pub ink_of : What → Rect → ℤ → ℤ → Ink
ink_of Back r x y = black
ink_of (Title ink text) r x y = ink
ink_of (Border ink) r x y = ink
ink_of (Window buffer) r x y = if covers (at_corner r buffer.size) x y then buffer.ink else black

-- a pixel after one ink was painted over a rectangle
abbrev pub after_fill : Rect → Ink → ℤ → ℤ → Ink → Ink
after_fill r ink x y before = if covers r x y then ink else before

-- a pixel after a part was painted over a rectangle: the part's ink where the rectangle covers the pixel, else as before
abbrev pub after_part : Rect → What → ℤ → ℤ → Ink → Ink
after_part r what x y before = if covers r x y then ink_of what r x y else before

abbrev pub after_quad : Quad → ℤ → ℤ → Ink → Ink
after_quad q x y before = after_part q.rect q.what x y before

-- a pixel after quads in order: the ink of the last one that covers it, else as before
abbrev pub after_quads : List Quad → ℤ → ℤ → Ink → Ink
after_quads [] x y before = before
after_quads (q ∷ qs) x y before = after_quads qs x y (after_quad q x y before)
