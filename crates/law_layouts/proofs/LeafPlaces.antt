-- The workspace of the places where a window floats and is tiled.
use Rattle.std.proofs.Common.{◌≡◌, ◌≢◌, Bool, true, false, cond, ◌&&◌, ◌||◌, List, Option, None, Some, refl, ap, sym, ◌∙◌}
use Rattle.law_layouts.proofs.MoveLooks.{Goal, spaced}
use Rattle.wm_base.specs.declared.geometry.Rect.{Rect}
use Rattle.wm_base.specs.declared.ids.ConId.{ConId}
use Rattle.wm_floats.specs.Floating.{tiling_place}
use Rattle.wm_forest.proofs.OnceLemmas.{in_kids, in_rest}
use Rattle.wm_forest.proofs.RecencyLemmas.{same_is, same_self}
use Rattle.wm_forest.specs.declared.part.NodeKind.{NodeKind}
use Rattle.wm_forest.specs.declared.part.NodeKind.TheVariants.{Root, Output, Space, Con}
use Rattle.wm_forest.specs.declared.part.Part.{Part}
use Rattle.wm_forest.specs.declared.place.Place.TheVariants.{After, Last, Float}
use Rattle.wm_forest.specs.declared.spot.Spot.{Spot}
use Rattle.wm_forest.specs.Focus.{follow, leaf_at, leaf_of, tiled_by}
use Rattle.wm_forest.specs.Forest.{Forest, end, con}
use Rattle.wm_forest.specs.Look.{first_part, has, kind_by, only, same, space_kind}
use Rattle.wm_forest.specs.Place.{named}
use Rattle.wm_forest.specs.Recency.{first_held}
use Rattle.wm_forest.specs.Spot.{space_by, spot_below, spot_in, spot_of, top}
use Rattle.wm_shared.proofs.ShowLemmas.{space_is, workspace_is}
use Rattle.wm_shared.proofs.SpaceLemmas.{IsSpaceIn}
use Rattle.wm_shared.proofs.SpaceOfLemmas.{IsLow, LowKind, below_space}
use Rattle.wm_tree.proofs.LeafLaws.{first_there}
use Rattle.wm_tree.specs.Sound.{IsSound}
use Rattle.wm_tree.specs.TreeValue.{TreeValue, is_con, is_tiled_con, is_tiled_spot, leaf, or_id, workspace_of}

-- a workspace is its own
own_spot : (w : ConId) (s : Spot) (f : Forest) → IsSpaceIn w f → spaced (spot_in s w f) ≡ Some w
own_spot w s end ok = absurd (ok refl)
own_spot w s (con part kids floats rest) ok = step (same part.id w) (has w kids) (has w floats) refl ok (own_spot w (spot_below true s part) kids) (own_spot w (spot_below false s part) floats) (own_spot w s rest)
  where
    own : (kind : NodeKind) → part.id ≡ w → space_kind kind ≢ None → space_by s.space part.id kind ≡ Some w
    own (Root d) e ok = absurd (ok refl)
    own (Output o) e ok = absurd (ok refl)
    own (Con d) e ok = absurd (ok refl)
    own (Space x) e ok = ap (λ (z : ConId). Some z) e

    step : (a k l : Bool) → same part.id w ≡ a → kind_by space_kind (first_part (cond a (con part kids floats end) (cond k (only w kids) (cond l (only w floats) (only w rest))))) ≢ None
        → (IsSpaceIn w kids → spaced (spot_in (spot_below true s part) w kids) ≡ Some w) → (IsSpaceIn w floats → spaced (spot_in (spot_below false s part) w floats) ≡ Some w) → (IsSpaceIn w rest → spaced (spot_in s w rest) ≡ Some w)
        → spaced (cond a (Some (spot_of s part)) (cond k (spot_in (spot_below true s part) w kids) (cond l (spot_in (spot_below false s part) w floats) (spot_in s w rest)))) ≡ Some w
    step true k l e ok u v x = own part.kind (same_is part.id w e) ok
    step false true l e ok u v x = u ok
    step false false true e ok u v x = v ok
    step false false false e ok u v x = x ok

pub own_workspace : (w : ConId) (t : TreeValue) → IsSpaceIn w t.nodes → workspace_of t w ≡ Some w
own_workspace w t ok = own_spot w top t.nodes ok

space_low : (o : Option Part) → kind_by space_kind o ≢ None → IsLow o
space_low None ok = absurd (ok refl)
space_low (Some part) ok = by part.kind ok
  where
    by : (kind : NodeKind) → space_kind kind ≢ None → LowKind kind
    by (Root c) ok = absurd (ok refl)
    by (Output o) ok = absurd (ok refl)
    by (Space w) ok = tt
    by (Con c) ok = absurd (ok refl)

-- ---- the leaf of a workspace is in it

follow_there : (kids : Forest) (ids : List ConId) (d : ConId) (f : Forest) → has d f ≡ true → ((x : ConId) → has x kids ≡ true → has (leaf_at ids kids x) kids ≡ true) → ((x : ConId) → has x kids ≡ true → has x f ≡ true)
    → (o : Option ConId) → first_held kids ids ≡ o → has (follow d (leaf_at ids kids) o) f ≡ true
follow_there kids ids d f own down up None e = own
follow_there kids ids d f own down up (Some x) e = up (leaf_at ids kids x) (down x (first_there kids ids x e))

leaf_there : (ids : List ConId) (f : Forest) (x : ConId) → has x f ≡ true → has (leaf_at ids f x) f ≡ true
leaf_there ids end x h = h
leaf_there ids (con part kids floats rest) x h = step (has x (con part kids floats end)) refl (leaf_there ids kids) (leaf_there ids rest x)
  where
    own : has part.id (con part kids floats rest) ≡ true
    own = rw (same_self part.id part.id refl) refl

    behind : has x (con part kids floats end) ≡ false → has x rest ≡ true
    behind none = by (same part.id x) (has x kids) (has x floats) none h
      where
        by : (a k l : Bool) → (a || k || l || false) ≡ false → (a || k || l || has x rest) ≡ true → has x rest ≡ true
        by true k l n h = cc
        by false true l n h = cc
        by false false true n h = cc
        by false false false n h = h

    step : (b : Bool) → has x (con part kids floats end) ≡ b → ((y : ConId) → has y kids ≡ true → has (leaf_at ids kids y) kids ≡ true) → (has x rest ≡ true → has (leaf_at ids rest x) rest ≡ true)
        → has (cond b (follow part.id (leaf_at ids kids) (first_held kids ids)) (leaf_at ids rest x)) (con part kids floats rest) ≡ true
    step true e u v = follow_there kids ids part.id (con part kids floats rest) own u (λ y k. in_kids y part kids floats rest k) (first_held kids ids) refl
    step false e u v = in_rest (leaf_at ids rest x) part kids floats rest (v (behind e))

leaf_of_there : (ids : List ConId) (f : Forest) (d : ConId) → leaf_of ids f ≡ Some d → has d f ≡ true
leaf_of_there ids end d e = cc
leaf_of_there ids (con part kids floats rest) d e =
    let one : follow part.id (leaf_at ids kids) (first_held (tiled_by part.kind kids) ids) ≡ d = cc in ap (λ z. has z (con part kids floats rest)) (sym one) ∙ by part.kind
  where
    own : has part.id (con part kids floats rest) ≡ true
    own = rw (same_self part.id part.id refl) refl

    down : (row : Forest) → ((x : ConId) → has x row ≡ true → has x kids ≡ true) → (o : Option ConId) → first_held row ids ≡ o → has (follow part.id (leaf_at ids kids) o) (con part kids floats rest) ≡ true
    down row up None h = own
    down row up (Some x) h = in_kids (leaf_at ids kids x) part kids floats rest (leaf_there ids kids x (up x (first_there row ids x h)))

    by : (k : NodeKind) → has (follow part.id (leaf_at ids kids) (first_held (tiled_by k kids) ids)) (con part kids floats rest) ≡ true
    by (Root c) = down end (λ x h. absurd (cc)) (first_held end ids) refl
    by (Output o) = down end (λ x h. absurd (cc)) (first_held end ids) refl
    by (Space w) = down kids (λ x h. h) (first_held kids ids) refl
    by (Con c) = down kids (λ x h. h) (first_held kids ids) refl

leaf_space : (w : ConId) (t : TreeValue) → IsSound t → IsSpaceIn w t.nodes → workspace_of t (or_id (leaf t w) w) ≡ Some w
leaf_space w t s ok = by (leaf t w) refl
  where
    by : (o : Option ConId) → leaf t w ≡ o → workspace_of t (or_id o w) ≡ Some w
    by None e = own_workspace w t ok
    by (Some d) e = below_space w d t s (space_low (first_part (only w t.nodes)) ok) (leaf_of_there t.recency (only w t.nodes) d e) ∙ own_workspace w t ok

-- ---- the two places

pub float_place : (c w : ConId) (r : Rect) (t : TreeValue) → IsSound t → workspace_of t c ≡ Some w → Goal (Float w r) (Some w) (first_part (only w t.nodes)) (spot_in top w t.nodes)
float_place c w r t s here = record { space = own_workspace w t (space_is w t (workspace_is c w t s here)); con = λ e. cc; tiled = λ e. cc }

both : (a b : Bool) → (a && b) ≡ true → (a ≡ true) × (b ≡ true)
both true b h = (refl, h)
both false b h = cc

pub sink_place : (c w : ConId) (t : TreeValue) → IsSound t → workspace_of t c ≡ Some w → Goal (tiling_place w t) (Some w) (first_part (only (named (tiling_place w t)) t.nodes)) (spot_in top (named (tiling_place w t)) t.nodes)
sink_place c w t s here = by (is_tiled_con t (or_id (leaf t w) w)) refl
  where
    ok : IsSpaceIn w t.nodes
    ok = space_is w t (workspace_is c w t s here)

    by : (b : Bool) → is_tiled_con t (or_id (leaf t w) w) ≡ b
        → Goal (cond b (After (or_id (leaf t w) w)) (Last w)) (Some w) (first_part (only (named (cond b (After (or_id (leaf t w) w)) (Last w))) t.nodes)) (spot_in top (named (cond b (After (or_id (leaf t w) w)) (Last w))) t.nodes)
    by true e =
        let two = both (is_con (first_part (only (or_id (leaf t w) w) t.nodes))) (is_tiled_spot (spot_in top (or_id (leaf t w) w) t.nodes)) e in
        record { space = leaf_space w t s ok; con = λ x. two.0; tiled = λ x. two.1 }
    by false e = record { space = own_workspace w t ok; con = λ x. cc; tiled = λ x. cc }
