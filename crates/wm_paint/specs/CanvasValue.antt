-- Canvases: an area of pixels, row by row from above.
use Rattle.std.specs.Prelude.{◌≡◌, ℕ, ◌+◌, ◌*◌, ◌/◌, ◌%◌, ◌<◌, ◌≤◌, if◌then◌else◌, ℤ, pos, negsuc, ◌+ℤ◌, ◌-ℤ◌, ◌≤ℤ◌, unsigned_abs, List, [], ◌∷◌, ◌++◌, map, length, get_or, replicate, flat_map, Option, None, Some, codes}
use Rattle.std.specs.Fmt.{decimal}
use Rattle.std.specs.List.{range_with_len}
use Rattle.wm_base.specs.declared.geometry.Rect.{Rect}
use Rattle.wm_base.specs.declared.ids.Ink.{Ink}
use Rattle.wm_paint.specs.declared.frame.Quad.{Quad}
use Rattle.wm_paint.specs.FrameText.{new_line}
use Rattle.wm_paint.specs.Picture.{black, covers, after_quads}

-- an area and its pixels, row by row from above, each row from the left
pub record CanvasValue : Type 0 where
  pub area : Rect
  pub inks : List Ink

-- sides of at most 16,384 pixels, and places from -131,072 to 131,071
pub record IsArea (r : Rect) : Type 0 where
  pub left : negsuc 131071 ≤ℤ r.x
  pub right : r.x ≤ℤ pos 131071
  pub top : negsuc 131071 ≤ℤ r.y
  pub bottom : r.y ≤ℤ pos 131071
  pub width : r.w ≤ 16384
  pub height : r.h ≤ 16384

-- how many pixels an area has
abbrev pub count : Rect → ℕ
count area = area.w * area.h

-- the area is within the limits, and each of its pixels is there
abbrev pub IsWhole : CanvasValue → Type 0
IsWhole c = IsArea c.area × (length c.inks ≡ count c.area)

-- where the pixel at a place stands among those of the area
abbrev pub index : Rect → ℤ → ℤ → ℕ
index area x y = unsigned_abs (y -ℤ area.y) * area.w + unsigned_abs (x -ℤ area.x)

-- the column and the line of the k-th pixel
abbrev pub x_at : Rect → ℕ → ℤ
x_at area k = area.x +ℤ pos (k % area.w)

abbrev pub y_at : Rect → ℕ → ℤ
y_at area k = area.y +ℤ pos (k / area.w)

-- the ink of the pixel at a place, none outside of the area
abbrev pub pixel : CanvasValue → ℤ → ℤ → Option Ink
pixel c x y = if covers c.area x y then Some (get_or c.inks (index c.area x y) black) else None

abbrev pub blank : Rect → CanvasValue
blank area = record { area = area; inks = replicate (count area) black }

-- the ink of each pixel of the area after quads over black
abbrev pub drawn_inks : Rect → List Quad → List Ink
drawn_inks area quads = map (λ k. after_quads quads (x_at area k) (y_at area k) black) (range_with_len 0 (count area))

-- quads over black
abbrev pub drawn : Rect → List Quad → CanvasValue
drawn area quads = record { area = area; inks = drawn_inks area quads }

-- the ink of the pixel at a place after quads over black, none outside of the area
abbrev pub picture : Rect → List Quad → ℤ → ℤ → Option Ink
picture area quads x y = if covers area x y then Some (after_quads quads x y black) else None

-- each pixel of the area is what the change makes of it
abbrev pub IsRepainted : Rect → (ℤ → ℤ → Ink → Ink) → List Ink → List Ink → Type 0
IsRepainted area change old new = (k : ℕ) → k < count area → get_or new k black ≡ change (x_at area k) (y_at area k) (get_or old k black)

-- ---- the file

-- red, green and blue
abbrev pub ink_bytes : Ink → List ℕ
ink_bytes ink = ink.0 / 65536 % 256 ∷ ink.0 / 256 % 256 ∷ ink.0 % 256 ∷ []

abbrev pub ppm_head : Rect → List ℕ
ppm_head area = codes "P6" ++ (new_line ++ (decimal area.w ++ (codes " " ++ (decimal area.h ++ (new_line ++ (codes "255" ++ new_line))))))

-- a head with the width and the height, and three bytes a pixel, rows from above
abbrev pub ppm : CanvasValue → List ℕ
ppm c = ppm_head c.area ++ flat_map ink_bytes c.inks
