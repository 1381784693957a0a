-- What is known of tiled containers.
use Rattle.std.proofs.Common.{◌≡◌, ◌≢◌, Bool, true, false, ◌&&◌, Option, None, Some, refl, subst}
use Rattle.wm_base.specs.declared.ids.ConId.{ConId}
use Rattle.wm_forest.specs.declared.part.Part.{Part}
use Rattle.wm_forest.specs.declared.part.NodeKind.{NodeKind}
use Rattle.wm_forest.specs.declared.part.NodeKind.TheVariants.{Root, Output, Space, Con}
use Rattle.wm_forest.specs.declared.spot.Spot.{Spot}
use Rattle.wm_shared.specs.Subject.{IsSubject, is_subject_kind}
use Rattle.wm_forest.proofs.ForestLemmas.{only_absent}
use Rattle.wm_forest.specs.Forest.{Forest, end}
use Rattle.wm_forest.specs.Look.{con_kind, first_part, has, kind_by, only, space_kind}
use Rattle.wm_forest.specs.Place.{IsTiled, is_tiled}
use Rattle.wm_tree.specs.TreeValue.{TreeValue, is_con, is_con_kind, is_tiled_con, is_tiled_spot, spot}

both_true : (a b : Bool) → (a && b) ≡ true → (a ≡ true) × (b ≡ true)
both_true true b h = (refl, h)
both_true false b h = cc

con_kind_is : (kind : NodeKind) → is_con_kind kind ≡ true → con_kind kind ≢ None
con_kind_is (Root c) h = λ e. cc
con_kind_is (Output o) h = λ e. cc
con_kind_is (Space s) h = λ e. cc
con_kind_is (Con c) h = λ e. cc

con_is : (part : Option Part) → is_con part ≡ true → kind_by con_kind part ≢ None
con_is None h = λ e. cc
con_is (Some part) h = con_kind_is part.kind h

spot_is : (s : Option Spot) → is_tiled_spot s ≡ true → is_tiled s ≡ true
spot_is None h = h
spot_is (Some s) h = h

pub tiled_is : (t : TreeValue) (c : ConId) → is_tiled_con t c ≡ true → IsTiled c t.nodes
tiled_is t c h =
    let k = both_true (is_con (first_part (only c t.nodes))) (is_tiled_spot (spot t c)) h in
    (con_is (first_part (only c t.nodes)) k.0, spot_is (spot t c) k.1)

-- a subject is there
pub subject_there : (t : TreeValue) (c : ConId) → IsSubject t c → has c t.nodes ≡ true
subject_there t c s = step (has c t.nodes) refl where
  step : (b : Bool) → has c t.nodes ≡ b → has c t.nodes ≡ true
  step true e = e
  step false e =
      let P : Forest → Type 0 = λ f. is_subject_kind (kind_by space_kind (first_part f)) (kind_by con_kind (first_part f)) ≡ true in
      let none : P end = subst P (only_absent c t.nodes e) s.kind in
      cc
