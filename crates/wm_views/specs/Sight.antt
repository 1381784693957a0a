-- What a view looks up, in maps or without.
use Rattle.std.specs.Prelude.{◌≡◌, List, IfSome}
use Rattle.wm_arrange.specs.declared.parts.Placed.{Placed}
use Rattle.wm_base.specs.declared.ids.ConId.{ConId}
use Rattle.wm_forest.specs.Recency.{lists, place_from}
use Rattle.wm_tree.specs.TreeValue.{focused, shown}
use Rattle.wm_views.specs.declared.maps.Wanted.{Wanted}
use Rattle.wm_views.specs.declared.sight.Sight.{Sight}
use Rattle.wm_views.specs.declared.sight.SightMaps.{SightMaps}
use Rattle.wm_views.specs.Maps.{holds, rect_at, rect_kept, value_at}

-- the maps have the rectangles of the parts, and the places in the list by recency
pub record AreMaps (parts : List Placed) (recency : List ConId) (m : SightMaps) : Type 0 where
  pub rects : (w : Wanted) (c : ConId) → rect_kept w (value_at m.rects c) ≡ rect_at w c parts
  pub places : (c : ConId) → value_at m.places c ≡ place_from 0 c recency

-- the focused workspace, the focused node, where it is kept, and the urgent windows are the tree's, and the maps, where there are any, have what is in the arrangement and in the tree
pub record IsSight (s : Sight) : Type 0 where
  pub focus : IfSome s.focused (λ c. c ≡ focused s.tree.now)
  pub shown_is : s.shown ≡ shown s.tree.now
  pub urgent : (c : ConId) → holds s.urgent c ≡ lists c s.tree.now.urgent
  pub maps : IfSome s.maps (λ m. AreMaps s.arrangement.now.parts s.tree.now.recency m)
