-- Sticky floating windows go along with what their output shows.
use Rattle.std.specs.Prelude.{◌≡◌, ◌≢◌, false, None}
use Rattle.wm_base.specs.declared.ids.ConId.{ConId}
pub use Rattle.wm_base.specs.Rect.{nowhere}
use Rattle.wm_forest.specs.declared.place.Place.TheVariants.{Float}
use Rattle.wm_forest.specs.Change.{at, nobody, unfull}
use Rattle.wm_forest.specs.Forest.{Forest, end}
use Rattle.wm_forest.specs.Look.{first_floats, kind_of, only, same, space_kind}
use Rattle.wm_forest.specs.Place.{put}
use Rattle.wm_forest.specs.Sticky.{loosened, sticky}
use Rattle.wm_tree.specs.TreeValue.{TreeValue}

-- the sticky floating windows of v come last among those of w, and lose fullscreen
abbrev pub gone_along : ConId → ConId → TreeValue → TreeValue
gone_along v w t = record t { nodes = put (Float w nowhere) (unfull nobody (sticky (first_floats (only v t.nodes)))) (at v loosened end t.nodes) }

-- v and w are two workspaces
abbrev pub AreSpaces : ConId → ConId → Forest → Type 0
AreSpaces v w forest = (kind_of space_kind v forest ≢ None) × (kind_of space_kind w forest ≢ None) × (same v w ≡ false)
