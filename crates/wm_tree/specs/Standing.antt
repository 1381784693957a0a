-- What a node is and where it stands.
use Rattle.std.specs.Prelude.{◌≡◌, Bool, false, Option, None, Some}
use Rattle.wm_base.specs.declared.ids.ConId.{ConId}
use Rattle.wm_forest.specs.declared.part.ConPart.{ConPart}
use Rattle.wm_forest.specs.declared.spot.Spot.{Spot}
use Rattle.wm_forest.specs.Forest.{end}
use Rattle.wm_forest.specs.Look.{con_kind, kind_of, only, space_kind}
use Rattle.wm_tree.specs.declared.standing.Placed.{Placed}
use Rattle.wm_tree.specs.declared.standing.Standing.{Standing}
use Rattle.wm_tree.specs.declared.standing.Standing.TheVariants as standings
use Rattle.wm_tree.specs.TreeValue.{TreeValue, is_tiled_con, parent, spot, workspace_of}

-- c is this container, and stands there on a workspace
pub record IsPlaced (p : Placed) (c : ConId) (t : TreeValue) : Type 0 where
  pub part : kind_of con_kind c t.nodes ≡ Some p.part.now
  pub other : kind_of space_kind c t.nodes ≡ None
  pub holder : parent t c ≡ p.holder
  pub space : workspace_of t c ≡ Some p.space
  pub tiled : is_tiled_con t c ≡ p.tiled

-- c is this container, and stands in the scratchpad
pub record IsAway (own : ConPart) (is_tiled : Bool) (c : ConId) (t : TreeValue) : Type 0 where
  pub part : kind_of con_kind c t.nodes ≡ Some own
  pub other : kind_of space_kind c t.nodes ≡ None
  pub space : workspace_of t c ≡ None
  pub tiled : is_tiled_con t c ≡ is_tiled

-- what c is and where it stands; None where it is not there
abbrev pub IsStanding : Option Standing → ConId → TreeValue → Type 0
IsStanding None c t = (only c t.nodes ≡ end) × (spot t c ≡ None)
IsStanding (Some standings.Above) c t = (kind_of space_kind c t.nodes ≡ None) × (kind_of con_kind c t.nodes ≡ None) × (is_tiled_con t c ≡ false)
IsStanding (Some (standings.Space s)) c t = (kind_of space_kind c t.nodes ≡ Some s.now) × (kind_of con_kind c t.nodes ≡ None) × (is_tiled_con t c ≡ false) × (workspace_of t c ≡ Some c)
IsStanding (Some (standings.Placed p)) c t = IsPlaced p c t
IsStanding (Some (standings.Away part tiled)) c t = IsAway part.now tiled c t

-- a container with this part that stands so
abbrev pub IsSpotted : Standing → ConPart → Spot → Type 0
IsSpotted standings.Above part s = ⊥
IsSpotted (standings.Space w) part s = ⊥
IsSpotted (standings.Placed p) part s = (p.part.now ≡ part) × (p.holder ≡ s.holder) × (s.space ≡ Some p.space) × (p.tiled ≡ s.tiled)
IsSpotted (standings.Away own tiled) part s = (own.now ≡ part) × (s.space ≡ None) × (tiled ≡ s.tiled)
