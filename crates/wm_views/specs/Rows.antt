-- Rows of sound trees, and what a walk keeps of the rows below a node.
use Rattle.std.specs.Prelude.{◌≡◌, ◌≤◌, ℕ, Bool, true, List}
use Rattle.wm_base.specs.declared.ids.ConId.{ConId}
use Rattle.wm_forest.specs.Counts.{row_length}
use Rattle.wm_forest.specs.Forest.{Forest}
use Rattle.wm_forest.specs.SoundRow.{IsSoundRow, Level, containers}
use Rattle.wm_views.specs.Recency.{by_recency}
use Rattle.wm_views.specs.declared.rows.Below.{Below}

-- a row at this level of a sound tree, tiled or not
pub record IsRowAt (l : Level) (row : Forest) : Type 0 where
  pub tiled : Bool
  pub room : ℕ
  pub sound : IsSoundRow l tiled room row

-- the tiled children of a node of a sound tree
pub record IsKids (row : Forest) : Type 0 where
  pub few : row_length row ≤ 256
  pub room : ℕ
  pub sound : IsSoundRow containers true room row

-- the nodes of both rows stand at their places by recency
pub record IsPlaced (ids : List ConId) (kids floats : Forest) (b : Below) : Type 0 where
  pub placed : b.placed.items ≡ by_recency ids kids floats
