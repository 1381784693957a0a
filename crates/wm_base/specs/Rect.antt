-- Rectangles in whole pixels.
use Rattle.std.specs.Prelude.{◌≡◌, ℕ, ◌+◌, ◌-◌, ◌<◌, ◌≤◌, ℤ, pos, negsuc, ◌+ℤ◌, ◌≤ℤ◌, ◌<ℤ◌}
use Rattle.wm_base.specs.declared.geometry.Rect.{Rect}
use Rattle.wm_base.specs.declared.geometry.Edges.{Edges}

-- ---- spans of one axis: a first place, and how many places

-- a span that begins from -1,000,000 to 1,000,000 and has at most 1,000,000 places
pub record IsNearSpan (start : ℤ) (length : ℕ) : Type 0 where
  pub low : negsuc 999999 ≤ℤ start
  pub high : start ≤ℤ pos 1000000
  pub short : length ≤ 1000000

-- the span has the place z
abbrev pub InSpan : ℤ → ℕ → ℤ → Type 0
InSpan start length z = (start ≤ℤ z) × (z <ℤ (start +ℤ pos length))

-- two spans have no place in common
abbrev pub IsApart : ℤ → ℕ → ℤ → ℕ → Type 0
IsApart a n b m = (z : ℤ) → InSpan a n z → InSpan b m z → ⊥

-- the span of `count` places from `first` on has the places that both spans have, at least one
pub record IsCommon (a : ℤ) (n : ℕ) (b : ℤ) (m : ℕ) (first : ℤ) (count : ℕ) : Type 0 where
  pub some : 0 < count
  pub in_both : (z : ℤ) → InSpan first count z → InSpan a n z × InSpan b m z
  pub all : (z : ℤ) → InSpan a n z → InSpan b m z → InSpan first count z

-- ---- rectangles

-- the rectangle without pixels at 0,0, where nothing is
abbrev pub nowhere : Rect
nowhere = record { x = pos 0; y = pos 0; w = 0; h = 0 }

-- places from -1,000,000 to 1,000,000, and sides of at most 1,000,000
pub record IsNear (r : Rect) : Type 0 where
  pub across : IsNearSpan r.x r.w
  pub down : IsNearSpan r.y r.h

pub record IsSmallEdges (e : Edges) : Type 0 where
  pub top : e.top ≤ 1000000
  pub right : e.right ≤ 1000000
  pub bottom : e.bottom ≤ 1000000
  pub left : e.left ≤ 1000000

-- each side moved inwards; a width or a height that would fall below 0 is 0
abbrev pub inset : Rect → Edges → Rect
inset r e = record { x = r.x +ℤ pos e.left; y = r.y +ℤ pos e.top; w = r.w - (e.left + e.right); h = r.h - (e.top + e.bottom) }

-- the pixel at this place is in the rectangle
abbrev pub HasPixel : Rect → ℤ → ℤ → Type 0
HasPixel r x y = InSpan r.x r.w x × InSpan r.y r.h y

-- the pixel at this place is in the rectangle, and at least as far from each side as its edge is wide
abbrev pub IsWithinEdges : Rect → Edges → ℤ → ℤ → Type 0
IsWithinEdges r e x y =
    ((r.x +ℤ pos e.left) ≤ℤ x) × ((x +ℤ pos e.right) <ℤ (r.x +ℤ pos r.w)) ×
    ((r.y +ℤ pos e.top) ≤ℤ y) × ((y +ℤ pos e.bottom) <ℤ (r.y +ℤ pos r.h))

-- no pixels, at the place of the rectangle
abbrev pub empty_at : Rect → Rect
empty_at r = record { x = r.x; y = r.y; w = 0; h = 0 }

-- result has the pixels that both have, or is empty at the place of the first where there are none
pub record IsOverlap (a b result : Rect) : Type 0 where
  pub in_both : (x y : ℤ) → HasPixel result x y → HasPixel a x y × HasPixel b x y
  pub all : (x y : ℤ) → HasPixel a x y → HasPixel b x y → HasPixel result x y
  pub none : ((x y : ℤ) → HasPixel a x y → HasPixel b x y → ⊥) → result ≡ empty_at a
