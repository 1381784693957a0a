-- The row in which a node stands, and the children of a node, are sound where the tree is; the mean of their shares is within its limits.
use Rattle.std.proofs.Common.{◌≡◌, ℕ, ◌*◌, ◌/◌, ◌≤◌, ◌<◌, Bool, true, false, cond, eqb, ◌||◌, Option, None, Some, List, refl, sym, subst, arith}
use Rattle.std.proofs.Math.Nat.{div-le_of_le-mul}
use Rattle.std.proofs.lemmas.Nat.{le-div}
use Rattle.std.proofs.lemmas.Bool.Decides.{nat_tests}
use Rattle.wm_base.specs.declared.ids.ConId.{ConId}
use Rattle.wm_forest.specs.declared.part.Part.{Part}
use Rattle.wm_forest.specs.declared.part.NodeKind.{NodeKind}
use Rattle.wm_forest.specs.declared.part.NodeKind.TheVariants.{Root, Output, Space, Con}
use Rattle.wm_forest.specs.declared.spot.Spot.{Spot}
use Rattle.wm_forest.specs.Forest.{Forest, end, con}
use Rattle.wm_forest.specs.Counts.{but, newcomer_share, row_length, row_with, share_of, share_sum}
use Rattle.wm_forest.specs.Place.{TakesKids}
use Rattle.wm_forest.specs.Look.{only, first_kids, first_part, has, same}
use Rattle.wm_forest.specs.SoundRow.{Level, containers, HasShare, IsNode, IsSoundRow}
use Rattle.wm_forest.specs.Spot.{room_below, spot_below, spot_in, spot_of}
use Rattle.wm_forest.proofs.ChangeLemmas.{by_place}
use Rattle.wm_forest.proofs.PutLemmas.{IsConFirst, con_level, node_takes}

-- ---- the row in which a container stands

abbrev pub SoundStanding : Option Spot → Forest → Forest → Type 0
SoundStanding None found st = Unit {0}
SoundStanding (Some s) found st = IsConFirst found → IsSoundRow containers s.tiled s.room st

-- the children of a node that takes any
abbrev pub SoundKids : Option Spot → Option Part → Forest → Type 0
SoundKids None part kids = Unit {0}
SoundKids (Some s) None kids = Unit {0}
SoundKids (Some s) (Some part) kids = TakesKids part.kind → IsSoundRow containers true (room_below s.room part.kind) kids

abbrev Stands : Level → Spot → Forest → Forest → Forest → Forest → Option Spot → Forest → Type 0
Stands l s whole old new found sp st = IsSoundRow l s.tiled s.room whole → IsSoundRow l s.tiled s.room old → SoundStanding sp found st × SoundKids sp (first_part found) (first_kids found)

pub stands : (c : ConId) (l : Level) (s : Spot) (whole forest : Forest) → IsSoundRow l s.tiled s.room whole → IsSoundRow l s.tiled s.room forest
    → SoundStanding (spot_in s c forest) (only c forest) (row_with c whole forest) × SoundKids (spot_in s c forest) (first_part (only c forest)) (first_kids (only c forest))
stands c =
    by_place c (λ row part kids floats rest. rest) end Stands
    (λ l s whole w p. (tt, tt))
    here
    (λ l s whole part kids floats rest new found sp st h w p. h p.2 p.2)
    (λ l s whole part kids floats rest new found sp st h w p. h p.3 p.3)
    (λ l s whole part kids floats rest new found sp st h w p. h w p.4)
  where
    here : (l : Level) (s : Spot) (whole : Forest) (part : Part) (kids floats rest : Forest) → Stands l s whole (con part kids floats rest) rest (con part kids floats end) (Some (spot_of s part)) whole
    here l s whole part kids floats rest w p =
        let Whole : Level → Type 0 = λ m. IsSoundRow m s.tiled s.room whole in
        let Kids : Level → Type 0 = λ m. IsSoundRow m true (room_below s.room part.kind) kids in (
          λ ok. subst Whole (sym (con_level l s.tiled s.room part.id part.kind part.marks kids ok p.0)) w,
          λ ok. subst Kids (sym (node_takes l s.tiled s.room part.id part.kind part.marks kids kids ok p.0).1) p.2,
        )

-- ---- shares

share_bounds : (room : ℕ) (id : ConId) (kind : NodeKind) (marks : List (List ℕ)) (kids : Forest) → IsNode containers true room id kind marks kids → (1 ≤ share_of kind) × (share_of kind ≤ 1048576)
share_bounds room id (Root c) marks kids h = absurd h
share_bounds room id (Output o) marks kids h = absurd h
share_bounds room id (Space w) marks kids h = absurd h
share_bounds room id (Con c) marks kids h = h.1

pub sum_bounds : (room : ℕ) (row : Forest) → IsSoundRow containers true room row → (row_length row ≤ share_sum row) × (share_sum row ≤ 1048576 * row_length row)
sum_bounds room end p = (omega arith, omega arith)
sum_bounds room (con part kids floats rest) p =
    let b = share_bounds room part.id part.kind part.marks kids p.0 in
    let r = sum_bounds room rest p.4 in
    (omega (arith, b.0, r.0), omega (arith, b.1, r.1))

-- the mean of shares is from 1 to 1,048,576
pub mean_bounds : (room : ℕ) (row : Forest) → IsSoundRow containers true room row → HasShare true (newcomer_share row)
mean_bounds room row p = by_test (eqb (row_length row) 0) refl
  where
    by_test : (b : Bool) → eqb (row_length row) 0 ≡ b → HasShare true (cond b 65536 (share_sum row / row_length row))
    by_test true e = (omega arith, omega arith)
    by_test false e =
        let some : 0 < row_length row = positive (row_length row) e in
        let s = sum_bounds room row p in
        (le-div 1 (share_sum row) (row_length row) some (omega (arith, s.0)), div-le_of_le-mul (row_length row) (omega (arith, s.1)))
      where
        positive : (n : ℕ) → eqb n 0 ≡ false → 0 < n
        positive n e = grind (arith, nat_tests)

-- the row without one of its nodes
pub sound-but : (c : ConId) (l : Level) (tiled : Bool) (room : ℕ) (row : Forest) → IsSoundRow l tiled room row → IsSoundRow l tiled room (but c row)
sound-but c l tiled room end p = p
sound-but c l tiled room (con part kids floats rest) p = step (same part.id c) (sound-but c l tiled room rest p.4)
  where
    step : (b : Bool) → IsSoundRow l tiled room (but c rest) → IsSoundRow l tiled room (cond b rest (con part kids floats (but c rest)))
    step true q = p.4
    step false q = (p.0, p.1, p.2, p.3, q)

-- ---- a node that is there has a spot

abbrev pub HasSpot : Option Spot → Type 0
HasSpot None = ⊥
HasSpot (Some s) = Unit {0}

spot_step : (a k l r : Bool) (here kids floats rest : Option Spot) → (a ≡ true → HasSpot here) → (k ≡ true → HasSpot kids) → (l ≡ true → HasSpot floats) → (r ≡ true → HasSpot rest)
    → (a || k || l || r) ≡ true → HasSpot (cond a here (cond k kids (cond l floats rest)))
spot_step true k l r here kids floats rest p q t u h = p refl
spot_step false true l r here kids floats rest p q t u h = q refl
spot_step false false true r here kids floats rest p q t u h = t refl
spot_step false false false r here kids floats rest p q t u h = u h

pub has_spot : (c : ConId) (s : Spot) (f : Forest) → has c f ≡ true → HasSpot (spot_in s c f)
has_spot c s end h = cc
has_spot c s (con part kids floats rest) h =
    spot_step (same part.id c) (has c kids) (has c floats) (has c rest) (Some (spot_of s part)) (spot_in (spot_below true s part) c kids) (spot_in (spot_below false s part) c floats) (spot_in s c rest)
    (λ e. tt) (has_spot c (spot_below true s part) kids) (has_spot c (spot_below false s part) floats) (has_spot c s rest) h
