-- What was found in a tree.
use Rattle.std.specs.Prelude.{◌≡◌}
use Rattle.wm_base.specs.declared.ids.ConId.{ConId}
use Rattle.wm_changes.specs.declared.scene.Scene.{Scene}
use Rattle.wm_changes.specs.Facts.{spaces}
use Rattle.wm_forest.specs.Recency.{lists}
use Rattle.wm_tree.specs.Sound.{IsSound}
use Rattle.wm_views.specs.Maps.{holds}

-- the tree is sound, and the maps have its workspaces and its urgent windows
pub record IsScene (s : Scene) : Type 0 where
  pub sound : IsSound s.tree.now
  pub spaces : s.spaces.entries ≡ spaces s.tree.now
  pub urgent : (c : ConId) → holds s.urgent c ≡ lists c s.tree.now.urgent
