-- A workspace stands on itself.
use Rattle.std.proofs.Common.{◌≡◌, Bool, true, false, cond, ◌&&◌, Option, None, Some, refl}
use Rattle.std.specs.Prelude.{option_and_then}
use Rattle.wm_base.specs.declared.ids.ConId.{ConId}
use Rattle.wm_forest.proofs.RecencyLemmas.{same_is}
use Rattle.wm_forest.specs.declared.part.Part.{Part}
use Rattle.wm_forest.specs.declared.part.NodeKind.{NodeKind}
use Rattle.wm_forest.specs.declared.part.NodeKind.TheVariants.{Root, Output, Space, Con}
use Rattle.wm_forest.specs.declared.part.SpacePart.{SpacePart}
use Rattle.wm_forest.specs.declared.spot.Spot.{Spot}
use Rattle.wm_forest.specs.Forest.{Forest, end, con}
use Rattle.wm_forest.specs.Look.{con_kind, first_part, has, kind_by, only, same, space_kind}
use Rattle.wm_forest.specs.Spot.{spot_below, spot_in, spot_of, top}
use Rattle.wm_tree.specs.TreeValue.{is_con, is_tiled_spot}

-- the workspace of a node of this kind is itself where it is a workspace
abbrev pub OwnBy : ConId → NodeKind → Spot → Type 0
OwnBy c (Root d) s = Unit {0}
OwnBy c (Output o) s = Unit {0}
OwnBy c (Space w) s = s.space ≡ Some c
OwnBy c (Con p) s = Unit {0}

abbrev pub Own : ConId → Option Part → Option Spot → Type 0
Own c None spot = Unit {0}
Own c (Some part) None = Unit {0}
Own c (Some part) (Some s) = OwnBy c part.kind s

-- the workspace of a workspace is itself
pub own_space : (c : ConId) (s : Spot) (row : Forest) → Own c (first_part (only c row)) (spot_in s c row)
own_space c s end = tt
own_space c s (con part kids floats rest) =
    step (same part.id c) (has c kids) (has c floats) refl (own_space c (spot_below true s part) kids) (own_space c (spot_below false s part) floats) (own_space c s rest)
  where
    here : part.id ≡ c → (kind : NodeKind) → part.kind ≡ kind → OwnBy c kind (spot_of s part)
    here e (Root d) k = tt
    here e (Output o) k = tt
    here e (Space w) k = rw (k, e) refl
    here e (Con p) k = tt

    step : (a k l : Bool) → same part.id c ≡ a → Own c (first_part (only c kids)) (spot_in (spot_below true s part) c kids) → Own c (first_part (only c floats)) (spot_in (spot_below false s part) c floats)
        → Own c (first_part (only c rest)) (spot_in s c rest)
        → Own c (first_part (cond a (con part kids floats end) (cond k (only c kids) (cond l (only c floats) (only c rest)))))
        (cond a (Some (spot_of s part)) (cond k (spot_in (spot_below true s part) c kids) (cond l (spot_in (spot_below false s part) c floats) (spot_in s c rest))))
    step true k l e x y z = here (same_is part.id c e) part.kind refl
    step false true l e x y z = x
    step false false true e x y z = y
    step false false false e x y z = z

-- a workspace's kind, and that it stands on itself
pub space_stands : (c : ConId) (nodes : Forest) (part : Part) (w : SpacePart) (kids floats : Forest) (s : Spot) → only c nodes ≡ con part kids floats end → part.kind ≡ Space w → spot_in top c nodes ≡ Some s
    → (kind_by space_kind (first_part (only c nodes)) ≡ Some w) × (kind_by con_kind (first_part (only c nodes)) ≡ None) × ((is_con (first_part (only c nodes)) && is_tiled_spot (spot_in top c nodes)) ≡ false)
    × (option_and_then (λ (x : Spot). x.space) (spot_in top c nodes) ≡ Some c)
space_stands c nodes part w kids floats s node kind stands =
    let own : s.space ≡ Some c = rw kind at (rw stands at (rw node at (own_space c top nodes))) in
    (rw (node, kind) refl, rw (node, kind) refl, rw (node, kind) refl, rw stands own)
