-- The children of workspaces and splits are tiled containers.
use Rattle.std.proofs.Common.{◌≡◌, ◌≢◌, ℕ, Bool, true, false, cond, ◌||◌, List, None, Some, refl, ap, ◌∙◌, subst}
use Rattle.wm_base.specs.declared.ids.ConId.{ConId}
use Rattle.wm_shared.proofs.DownLemmas.{Once, in_floats, in_kids, in_rest, once_floats, once_kids, once_rest}
use Rattle.wm_tree.proofs.AttachLemmas.{has_row}
use Rattle.wm_forest.proofs.ForestLemmas.{only_absent}
use Rattle.wm_forest.proofs.RecencyLemmas.{same_self}
use Rattle.wm_forest.specs.declared.part.NodeKind.{NodeKind}
use Rattle.wm_forest.specs.declared.part.NodeKind.TheVariants.{Root, Output, Space, Con}
use Rattle.wm_forest.specs.declared.part.Part.{Part}
use Rattle.wm_forest.specs.declared.spot.Spot.{Spot}
use Rattle.wm_forest.specs.Forest.{Forest, end, con}
use Rattle.wm_forest.specs.Look.{con_kind, first_part, has, in_row, kind_by, only, same}
use Rattle.wm_forest.specs.Place.{IsTiled, is_tiled}
use Rattle.wm_forest.specs.SoundRow.{IsNode, IsSoundRow, Level, below, containers, outputs, roots, spaces}
use Rattle.wm_forest.specs.Spot.{room_below, spot_below, spot_in, spot_of, top}
use Rattle.wm_forest.specs.Focus.{row_holder, tiled_by, tiled_kids}

-- a container is there
pub con_there : (c : ConId) (f : Forest) → kind_by con_kind (first_part (only c f)) ≢ None → has c f ≡ true
con_there c f ok = by_test (has c f) refl
  where
    by_test : (b : Bool) → has c f ≡ b → has c f ≡ true
    by_test true e = e
    by_test false e = absurd (ok (ap (λ g. kind_by con_kind (first_part g)) (only_absent c f e)))

-- ---- whether a node is tiled

-- the node i is tiled; b tells it of the row
abbrev pub tiled_in : Bool → ConId → Forest → Bool
tiled_in b i end = false
tiled_in b i (con part kids floats rest) = cond (same part.id i) b (cond (has i kids) (tiled_in true i kids) (cond (has i floats) (tiled_in false i floats) (tiled_in b i rest)))

pub spot_tiled : (i : ConId) (s : Spot) (f : Forest) → is_tiled (spot_in s i f) ≡ tiled_in s.tiled i f
spot_tiled i s end = refl
spot_tiled i s (con part kids floats rest) =
    step (same part.id i) (has i kids) (has i floats) (spot_tiled i (spot_below true s part) kids) (spot_tiled i (spot_below false s part) floats) (spot_tiled i s rest)
  where
    step : (a k l : Bool) → is_tiled (spot_in (spot_below true s part) i kids) ≡ tiled_in true i kids → is_tiled (spot_in (spot_below false s part) i floats) ≡ tiled_in false i floats → is_tiled (spot_in s i rest) ≡ tiled_in s.tiled i rest
        → is_tiled (cond a (Some (spot_of s part)) (cond k (spot_in (spot_below true s part) i kids) (cond l (spot_in (spot_below false s part) i floats) (spot_in s i rest)))) ≡ cond a s.tiled (cond k (tiled_in true i kids) (cond l (tiled_in false i floats) (tiled_in s.tiled i rest)))
    step true k l p q r = refl
    step false true l p q r = p
    step false false true p q r = q
    step false false false p q r = r

-- a container that is tiled
abbrev pub IsKid : Bool → ConId → Forest → Type 0
IsKid b i f = (kind_by con_kind (first_part (only i f)) ≢ None) × (tiled_in b i f ≡ true)

pub kid_tiled : (i : ConId) (f : Forest) → IsKid false i f → IsTiled i f
kid_tiled i f k = (k.0, spot_tiled i top f ∙ k.1)

pub kid_there : (b : Bool) (i : ConId) (f : Forest) → IsKid b i f → has i f ≡ true
kid_there b i f k = by (has i f) refl where
  by : (h : Bool) → has i f ≡ h → has i f ≡ true
  by true e = e
  by false e = absurd (k.0 (ap (λ g. kind_by con_kind (first_part g)) (only_absent i f e)))

module _ (part : Part) (kids floats rest : Forest) (once : Once (con part kids floats rest)) (b : Bool) (i : ConId) where
  pub kid_kids : IsKid true i kids → IsKid b i (con part kids floats rest)
  kid_kids k =
      let h = kid_there true i kids k in
      (rw (in_kids part kids floats rest once i h, h) k.0, rw (in_kids part kids floats rest once i h, h) k.1)

  pub kid_floats : IsKid false i floats → IsKid b i (con part kids floats rest)
  kid_floats k =
      let h = kid_there false i floats k in
      let n = in_floats part kids floats rest once i h in
      (rw (n.0, n.1, h) k.0, rw (n.0, n.1, h) k.1)

  pub kid_rest : IsKid b i rest → IsKid b i (con part kids floats rest)
  kid_rest k =
      let n = in_rest part kids floats rest once i (kid_there b i rest k) in
      (rw (n.0, n.1, n.2) k.0, rw (n.0, n.1, n.2) k.1)

-- ---- rows of children

is_container : (tiled : Bool) (room : ℕ) (id : ConId) (kind : NodeKind) (marks : List (List ℕ)) (kids : Forest) → IsNode containers tiled room id kind marks kids → con_kind kind ≢ None
is_container tiled room id (Root c) marks kids h = absurd h
is_container tiled room id (Output o) marks kids h = absurd h
is_container tiled room id (Space w) marks kids h = absurd h
is_container tiled room id (Con c) marks kids h = λ e. cc

-- each node of a row of containers is one
pub row_kid : (i : ConId) (b : Bool) (room : ℕ) (row : Forest) → IsSoundRow containers b room row → Once row → in_row i row ≡ true → (kind_by con_kind (first_part (only i row)) ≢ None) × (tiled_in b i row ≡ b)
row_kid i b room end s once h = cc
row_kid i b room (con part kids floats rest) s once h = step (same part.id i) refl (row_kid i b room rest s.4 (once_rest part kids floats rest once)) h where
  step : (a : Bool) → same part.id i ≡ a → (in_row i rest ≡ true → (kind_by con_kind (first_part (only i rest)) ≢ None) × (tiled_in b i rest ≡ b)) → (a || in_row i rest) ≡ true
      → (kind_by con_kind (first_part (only i (con part kids floats rest))) ≢ None) × (tiled_in b i (con part kids floats rest) ≡ b)
  step true e p h = (rw e (is_container b room part.id part.kind part.marks kids s.0), rw e refl)
  step false e p h =
      let n = in_rest part kids floats rest once i (has_row i rest h) in
      let k = p h in
      (rw (n.0, n.1, n.2) k.0, rw (n.0, n.1, n.2) k.1)

-- the children that are tiled stand in a row of containers
pub takes_containers : (l : Level) (tiled : Bool) (room : ℕ) (id i : ConId) (kind : NodeKind) (marks : List (List ℕ)) (kids below_it : Forest) → IsNode l tiled room id kind marks kids → in_row i (tiled_by kind below_it) ≡ true → (below l ≡ containers) × (in_row i below_it ≡ true)
takes_containers l tiled room id i (Root c) marks kids g n h = cc
takes_containers l tiled room id i (Output o) marks kids g n h = cc
takes_containers roots tiled room id i (Space w) marks kids g n h = absurd n
takes_containers outputs tiled room id i (Space w) marks kids g n h = absurd n
takes_containers spaces tiled room id i (Space w) marks kids g n h = (refl, h)
takes_containers containers tiled room id i (Space w) marks kids g n h = absurd n
takes_containers roots tiled room id i (Con c) marks kids g n h = absurd n
takes_containers outputs tiled room id i (Con c) marks kids g n h = absurd n
takes_containers spaces tiled room id i (Con c) marks kids g n h = absurd n
takes_containers containers tiled room id i (Con c) marks kids g n h = (refl, h)

-- a child of the first node of a row
pub child_kid : (i : ConId) (l : Level) (b : Bool) (room : ℕ) (part : Part) (kids floats rest : Forest) → IsSoundRow l b room (con part kids floats rest) → Once (con part kids floats rest) → in_row i (tiled_by part.kind kids) ≡ true
    → IsKid true i kids
child_kid i l b room part kids floats rest s once h =
    let t = takes_containers l b room part.id i part.kind part.marks kids kids s.0 h in
    let Row : Level → Type 0 = λ m. IsSoundRow m true (room_below room part.kind) kids in
    row_kid i true (room_below room part.kind) kids (subst Row t.0 s.2) (once_kids part kids floats rest once) t.1

pub in_tiled : (i : ConId) (kind : NodeKind) (kids : Forest) → in_row i (tiled_by kind kids) ≡ true → in_row i kids ≡ true
in_tiled i (Root c) kids h = cc
in_tiled i (Output o) kids h = cc
in_tiled i (Space s) kids h = h
in_tiled i (Con c) kids h = h

pub child_there : (i : ConId) (f : Forest) → in_row i (tiled_kids f) ≡ true → has i f ≡ true
child_there i end h = cc
child_there i (con part kids floats rest) h = last (same part.id i) (has i kids) (has i floats) (has i rest) (has_row i kids (in_tiled i part.kind kids h)) where
  last : (a k l r : Bool) → k ≡ true → (a || k || l || r) ≡ true
  last true k l r h = refl
  last false true l r h = refl
  last false false l r h = cc

-- a tiled child of a node is a tiled container
pub kid_of : (p i : ConId) (l : Level) (b : Bool) (room : ℕ) (f : Forest) → IsSoundRow l b room f → Once f → in_row i (tiled_kids (only p f)) ≡ true → IsKid b i f
kid_of p i l b room end s once h = cc
kid_of p i l b room (con part kids floats rest) s once h =
    step (same part.id p) (has p kids) (has p floats) (kid_of p i (below l) true (room_below room part.kind) kids s.2 (once_kids part kids floats rest once))
    (kid_of p i containers false (room_below room part.kind) floats s.3 (once_floats part kids floats rest once)) (kid_of p i l b room rest s.4 (once_rest part kids floats rest once)) h
  where
    step : (a k m : Bool) → (in_row i (tiled_kids (only p kids)) ≡ true → IsKid true i kids) → (in_row i (tiled_kids (only p floats)) ≡ true → IsKid false i floats) → (in_row i (tiled_kids (only p rest)) ≡ true → IsKid b i rest)
        → in_row i (tiled_kids (cond a (con part kids floats end) (cond k (only p kids) (cond m (only p floats) (only p rest))))) ≡ true → IsKid b i (con part kids floats rest)
    step true k m u v w h = kid_kids part kids floats rest once b i (child_kid i l b room part kids floats rest s once h)
    step false true m u v w h = kid_kids part kids floats rest once b i (u h)
    step false false true u v w h = kid_floats part kids floats rest once b i (v h)
    step false false false u v w h = kid_rest part kids floats rest once b i (w h)

-- ---- the nodes above

-- the node of a row that is c or holds it
pub holder_holds : (c x : ConId) (row : Forest) → Once row → row_holder c row ≡ Some x → (in_row x row ≡ true) × (has c (only x row) ≡ true)
holder_holds c x end once h = cc
holder_holds c x (con part kids floats rest) once h = step (has c (con part kids floats end)) refl (holder_holds c x rest (once_rest part kids floats rest once)) h where
  step : (a : Bool) → has c (con part kids floats end) ≡ a → (row_holder c rest ≡ Some x → (in_row x rest ≡ true) × (has c (only x rest) ≡ true)) → cond a (Some part.id) (row_holder c rest) ≡ Some x
      → (in_row x (con part kids floats rest) ≡ true) × (has c (only x (con part kids floats rest)) ≡ true)
  step true e p h =
      let one : part.id ≡ x = cc in
      (rw (same_self part.id x one) refl, rw (same_self part.id x one) e)
  step false e p h =
      let k = p h in
      let n = in_rest part kids floats rest once x (has_row x rest k.0) in
      (rw (n.0, k.0) refl, rw (n.0, n.1, n.2) k.1)

-- it stands in the row
pub holder_in_row : (c x : ConId) (row : Forest) → row_holder c row ≡ Some x → in_row x row ≡ true
holder_in_row c x end h = cc
holder_in_row c x (con part kids floats rest) h = step (has c (con part kids floats end)) (holder_in_row c x rest) h where
  last : (a b : Bool) → b ≡ true → (a || b) ≡ true
  last true b h = refl
  last false b h = h

  step : (a : Bool) → (row_holder c rest ≡ Some x → in_row x rest ≡ true) → cond a (Some part.id) (row_holder c rest) ≡ Some x → in_row x (con part kids floats rest) ≡ true
  step true p h = let one : part.id ≡ x = cc in rw (same_self part.id x one) refl
  step false p h = last (same part.id x) (in_row x rest) (p h)
