-- Where a pixel of a canvas stands.
use Rattle.std.proofs.Common.{◌≡◌, ℕ, ◌+◌, ◌*◌, ◌<◌, ◌≤◌, true, false, ℤ, ◌-ℤ◌, refl, arith, get_or}
use Rattle.std.specs.Prelude.{None, Some, unsigned_abs}
use Rattle.std.proofs.lemmas.Nat.{mul-add-lt}
use Rattle.std.proofs.Math.Nat.{mul-le-mul}
use Rattle.wm_base.specs.declared.geometry.Rect.{Rect}
use Rattle.wm_paint.specs.CanvasValue.{CanvasValue, IsArea, pixel}
use Rattle.wm_paint.specs.Picture.{in_span, black}
use Rattle.wm_paint.proofs.SpanLemmas.{and_no}

pub off_column : (c : CanvasValue) (x y : ℤ) → in_span c.area.x c.area.w x ≡ false → pixel c x y ≡ None
off_column c x y off = rw off refl

pub off_row : (c : CanvasValue) (x y : ℤ) → in_span c.area.y c.area.h y ≡ false → pixel c x y ≡ None
off_row c x y off = rw (off, and_no) refl

pub on : (c : CanvasValue) (x y : ℤ) (column row : ℕ) → in_span c.area.x c.area.w x ≡ true → in_span c.area.y c.area.h y ≡ true → column ≡ unsigned_abs (x -ℤ c.area.x) → row ≡ unsigned_abs (y -ℤ c.area.y) → pixel c x y ≡ Some (get_or c.inks (row * c.area.w + column) black)
on c x y column row across down is_column is_row = rw (across, down, is_column, is_row) refl

-- there are enough pixels, and their number fits
pub record IsPlace (row w column n : ℕ) : Type 0 where
  pub is_there : row * w + column < n
  pub line : row * w < 268435456
  pub small : row * w + column < 268435456

pub place : (row w column h n : ℕ) → row < h → column < w → w * h ≤ 268435456 → n ≡ w * h → IsPlace row w column n
place row w column h n r c few all =
    let there = mul-add-lt row w column h r c in
    record { is_there = omega (arith, there); line = omega (arith, there); small = omega (arith, there) }

-- an area has at most so many pixels
pub pixels_fit : (r : Rect) → IsArea r → r.w * r.h ≤ 268435456
pixels_fit r a = mul-le-mul a.width a.height
