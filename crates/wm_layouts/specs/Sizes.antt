-- The sizes of buffers.
use Rattle.std.specs.Prelude.{◌≤◌}
use Rattle.wm_base.specs.declared.geometry.Size.{Size}

-- a buffer's sides are at most 16,384
pub record IsFitSize (s : Size) : Type 0 where
  pub width : s.w ≤ 16384
  pub height : s.h ≤ 16384
