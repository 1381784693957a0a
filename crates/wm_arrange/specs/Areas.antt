-- Areas in pixels: the limits that they keep, and how an area is cut for the children in it.
use Rattle.std.specs.Prelude.{ℕ, ℤ, ◌-◌, ◌*◌, ◌/◌, ◌≤◌, ◌==◌, ◌||◌, ◌&&◌, Bool, int_le, nat_le, if◌then◌else◌, pos, negsuc, ◌+ℤ◌, ◌≤ℤ◌, List, [], ◌∷◌, Option, None, Some}
use Rattle.wm_base.specs.declared.geometry.Axis.{Axis}
use Rattle.wm_base.specs.declared.geometry.Axis.TheVariants.{Across, Down}
use Rattle.wm_base.specs.declared.geometry.Edges.{Edges}
use Rattle.wm_base.specs.declared.geometry.Rect.{Rect}
use Rattle.wm_forest.specs.Counts.{share_of}
use Rattle.wm_forest.specs.Forest.{Forest, end, con}
use Rattle.wm_arrange.specs.declared.areas.Margins.{Margins}

-- a span of places from -1,000,000 to 2,000,000, of at most 1,000,000
pub record IsStretch (start : ℤ) (length : ℕ) : Type 0 where
  pub low : negsuc 999999 ≤ℤ start
  pub high : (start +ℤ pos length) ≤ℤ pos 2000000
  pub short : length ≤ 1000000

-- an area on the screen
pub record IsArea (r : Rect) : Type 0 where
  pub across : IsStretch r.x r.w
  pub down : IsStretch r.y r.h

-- the area, unless it is empty
abbrev pub some_area : Rect → Option Rect
some_area r = if r.w == 0 || r.h == 0 then None else Some r

-- the span begins from -1,000,000 to 1,000,000 and has at most 1,000,000 places
abbrev pub is_near_span : ℤ → ℕ → Bool
is_near_span start length = int_le (negsuc 999999) start && (int_le start (pos 1000000) && nat_le length 1000000)

-- a floating window's rectangle as an area, unless it is empty; places and sides that are far beyond all outputs, and
-- which no output or window may have, give none
abbrev pub near_area : Rect → Option Rect
near_area r = if is_near_span r.x r.w && is_near_span r.y r.h then some_area r else None

-- the length of an area along an axis
abbrev pub side_of : Axis → Rect → ℕ
side_of Across area = area.w
side_of Down area = area.h

-- the part of an area from a start on, of a length, along an axis
abbrev pub slice_of : Axis → Rect → ℕ × ℕ → Rect
slice_of Across area (start, length) = record { x = area.x +ℤ pos start; y = area.y; w = length; h = area.h }
slice_of Down area (start, length) = record { x = area.x; y = area.y +ℤ pos start; w = area.w; h = length }

-- the part of an area from the sum of the shares before a child to the sum with its own, of all shares
abbrev pub cut_between : Axis → Rect → ℕ → ℕ → ℕ → Rect
cut_between axis area before after total =
    slice_of axis area (side_of axis area * before / total, side_of axis area * after / total - side_of axis area * before / total)

-- the shares of a row
abbrev pub shares : Forest → List ℕ
shares end = []
shares (con part kids floats rest) = share_of part.kind ∷ shares rest

-- ---- margins

-- a span of places, unless it is empty
abbrev pub some_span : ℤ → ℕ → Option (ℤ × ℕ)
some_span start n = if n == 0 then None else Some (start, n)

abbrev pub edges_of : Margins → Edges
edges_of m = record { top = m.top; right = m.right; bottom = m.bottom; left = m.left }

-- margins of at most 2^40 pixels
pub record IsFitMargins (m : Margins) : Type 0 where
  pub top : m.top ≤ 1099511627776
  pub right : m.right ≤ 1099511627776
  pub bottom : m.bottom ≤ 1099511627776
  pub left : m.left ≤ 1099511627776
