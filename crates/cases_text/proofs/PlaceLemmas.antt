-- Places at which a window may be put: in a workspace, and around a tiled container.
use Rattle.std.proofs.Common.{◌≡◌, ◌≢◌, true, Option, None, Some}
use Rattle.std.proofs.lemmas.Bool.{and_parts}
use Rattle.wm_base.specs.declared.ids.ConId.{ConId}
use Rattle.wm_forest.specs.declared.part.NodeKind.{NodeKind}
use Rattle.wm_forest.specs.declared.part.NodeKind.TheVariants.{Root, Output, Space, Con}
use Rattle.wm_forest.specs.declared.part.Part.{Part}
use Rattle.wm_forest.specs.declared.part.SpacePart.{SpacePart}
use Rattle.wm_forest.specs.declared.spot.Spot.{Spot}
use Rattle.wm_forest.specs.Look.{con_kind, first_part, kind_by, kind_of, only, space_kind}
use Rattle.wm_forest.specs.Place.{IsTiled, TakesFirst, TakesKids, is_tiled}
use Rattle.wm_tree.specs.TreeValue.{TreeValue, is_con, is_con_kind, is_tiled_con, is_tiled_spot, spot}

kind_takes : (kind : NodeKind) (w : SpacePart) → space_kind kind ≡ Some w → TakesKids kind
kind_takes (Root c) w h = cc
kind_takes (Output o) w h = cc
kind_takes (Space s) w h = tt
kind_takes (Con c) w h = cc

part_takes : (part : Option Part) (w : SpacePart) → kind_by space_kind part ≡ Some w → TakesFirst part
part_takes None w h = cc
part_takes (Some part) w h = kind_takes part.kind w h

-- a workspace takes children
pub space_takes : (c : ConId) (t : TreeValue) (w : SpacePart) → kind_of space_kind c t.nodes ≡ Some w → TakesFirst (first_part (only c t.nodes))
space_takes c t w h = part_takes (first_part (only c t.nodes)) w h

con_kind_is : (kind : NodeKind) → is_con_kind kind ≡ true → con_kind kind ≢ None
con_kind_is (Root c) h = cc
con_kind_is (Output o) h = cc
con_kind_is (Space s) h = cc
con_kind_is (Con c) h = λ e. cc

con_is : (part : Option Part) → is_con part ≡ true → kind_by con_kind part ≢ None
con_is None h = cc
con_is (Some part) h = con_kind_is part.kind h

spot_is : (s : Option Spot) → is_tiled_spot s ≡ true → is_tiled s ≡ true
spot_is None h = h
spot_is (Some s) h = h

-- a container that is tiled
pub tiled_is : (t : TreeValue) (c : ConId) → is_tiled_con t c ≡ true → IsTiled c t.nodes
tiled_is t c h =
    let both = and_parts (is_con (first_part (only c t.nodes))) (is_tiled_spot (spot t c)) h in
    (con_is (first_part (only c t.nodes)) both.0, spot_is (spot t c) both.1)
