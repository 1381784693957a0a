-- The bytes of a frame that is not whole yet, in two parts.
use Rattle.std.specs.Prelude.{◌≡◌, ℕ, ◌<◌, ◌++◌, List, [], length}
use Rattle.wm_frames.specs.Front.{front_of}
use Rattle.wm_frames.specs.declared.front.Front.TheVariants.{Part}

-- The head comes before the body has any bytes, and together they are a part of a frame.
pub record IsPartial (head body : List ℕ) : Type 0 where
  pub head_first : length head < 14 → body ≡ []
  pub part : front_of (head ++ body) ≡ Part
