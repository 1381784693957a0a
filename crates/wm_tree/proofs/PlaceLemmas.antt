-- A new window's place is in the tree.
use Rattle.std.proofs.Common.{◌≡◌, ◌≢◌, ℕ, ◌+◌, ◌≤◌, Bool, true, false, cond, ◌&&◌, ◌||◌, Option, None, Some, refl, arith}
use Rattle.wm_base.specs.declared.ids.ConId.{ConId}
use Rattle.wm_forest.specs.declared.part.Part.{Part}
use Rattle.wm_forest.specs.declared.part.NodeKind.{NodeKind}
use Rattle.wm_forest.specs.declared.part.NodeKind.TheVariants.{Root, Output, Space, Con}
use Rattle.wm_forest.specs.declared.place.Place.{Place}
use Rattle.wm_forest.specs.declared.place.Place.TheVariants.{After, Last}
use Rattle.wm_forest.specs.Forest.{Forest, end, con}
use Rattle.wm_forest.specs.Change.{shown_of, without}
use Rattle.wm_forest.specs.Counts.{count, one_space}
use Rattle.wm_forest.specs.Look.{con_kind, first_kids, first_part, has, in_row, kind_by, node_in, only, same}
use Rattle.wm_forest.specs.Place.{IsPlace, TakesFirst, TakesKids, is_tiled, named}
use Rattle.wm_forest.specs.SoundRow.{IsNode, IsSoundRow, one_of, outputs, spaces, tally}
use Rattle.wm_tree.specs.Sound.{IsSound}
use Rattle.wm_forest.specs.Spot.{room_below, spot_in, top}
use Rattle.wm_tree.specs.TreeValue.{TreeValue, current, current_row, focused, is_con, is_tiled_con, leaf, newcomer_place, or_id, shown}
use Rattle.wm_forest.proofs.CountLemmas.{count-without, found_counted}
use Rattle.wm_tree.proofs.FocusLemmas.{current_there, outputs_of, shown_has}
use Rattle.wm_forest.proofs.ForestLemmas.{only_absent}

-- ---- a workspace is found under its id

-- a workspace with the id counts one
abbrev pub space_of : ConId → Part → ℕ
space_of c p = cond (same p.id c) (one_space p.kind) 0

space_one : (c : ConId) (p : Part) → space_of c p ≤ one_of c p
space_one c p = by_test (same p.id c)
  where
    by_kind : (kind : NodeKind) → one_space kind ≤ 1
    by_kind (Root c) = omega arith
    by_kind (Output o) = omega arith
    by_kind (Space w) = omega arith
    by_kind (Con c) = omega arith

    by_test : (b : Bool) → cond b (one_space p.kind) 0 ≤ cond b 1 0
    by_test true = by_kind p.kind
    by_test false = omega arith

pub spaces_le : (c : ConId) (f : Forest) → count (space_of c) f ≤ tally c f
spaces_le c end = omega arith
spaces_le c (con part kids floats rest) = omega (arith, space_one c part, spaces_le c kids, spaces_le c floats, spaces_le c rest)

takes_space : (kind : NodeKind) → 1 ≤ one_space kind → TakesKids kind
takes_space (Root c) h = absurd (omega arith)
takes_space (Output o) h = absurd (omega arith)
takes_space (Space w) h = tt
takes_space (Con c) h = absurd (omega arith)

first_space : (c : ConId) (p : Part) → 1 ≤ space_of c p → TakesKids p.kind
first_space c p h = by_test (same p.id c) h
  where
    by_test : (b : Bool) → 1 ≤ cond b (one_space p.kind) 0 → TakesKids p.kind
    by_test true h = takes_space p.kind h
    by_test false h = absurd (omega arith)

-- one where the first node has the id
abbrev pub count_first : ConId → Forest → ℕ
count_first c end = 0
count_first c (con part kids floats rest) = one_of c part

first_id : (c : ConId) (a k l r : Bool) (part : Part) (kids floats rest : Forest) → same part.id c ≡ a → (k ≡ true → 1 ≤ count_first c (only c kids)) → (l ≡ true → 1 ≤ count_first c (only c floats)) → (r ≡ true → 1 ≤ count_first c (only c rest))
    → (a || k || l || r) ≡ true → 1 ≤ count_first c (cond a (con part kids floats end) (cond k (only c kids) (cond l (only c floats) (only c rest))))
first_id c true k l r part kids floats rest e p q s h = rw e (omega arith)
first_id c false true l r part kids floats rest e p q s h = p refl
first_id c false false true r part kids floats rest e p q s h = q refl
first_id c false false false r part kids floats rest e p q s h = s h

-- what is found has the id
pub found_id : (c : ConId) (f : Forest) → has c f ≡ true → 1 ≤ count_first c (only c f)
found_id c end h = cc
found_id c (con part kids floats rest) h =
    first_id c (same part.id c) (has c kids) (has c floats) (has c rest) part kids floats rest refl (found_id c kids) (found_id c floats) (found_id c rest) h

takes_found : (c : ConId) (found : Forest) → 1 ≤ count_first c found → tally c found ≤ 1 → 1 ≤ count (space_of c) found → TakesFirst (first_part found)
takes_found c end here once h = absurd (omega arith)
takes_found c (con part kids floats rest) here once h = first_space c part (omega (arith, here, once, h, spaces_le c kids, spaces_le c floats, spaces_le c rest))

-- a workspace that is counted is what is found
space_found : (c : ConId) (f : Forest) → tally c f ≤ 1 → has c f ≡ true → 1 ≤ count (space_of c) f → TakesFirst (first_part (only c f))
space_found c f once there h =
    takes_found c (only c f) (found_id c f there) (omega (arith, once, count-without (one_of c) c f))
    (omega (arith, h, once, count-without (space_of c) c f, count-without (one_of c) c f, spaces_le c (without c f), found_counted c f there))

-- ---- the workspace that is shown

pub count_kids : (m : Part → ℕ) (f : Forest) → count m (first_kids f) ≤ count m f
count_kids m end = omega arith
count_kids m (con part kids floats rest) = omega arith

count_from : (m : Part → ℕ) (c : ConId) (f : Forest) → count m (node_in c f) ≤ count m f
count_from m c end = omega arith
count_from m c (con part kids floats rest) = step (same part.id c) (count_from m c rest)
  where
    step : (b : Bool) → count m (node_in c rest) ≤ count m rest → count m (cond b (con part kids floats rest) (node_in c rest)) ≤ count m (con part kids floats rest)
    step true h = omega arith
    step false h = omega (arith, h)

row_space : (w : ConId) (tiled : Bool) (room : ℕ) (row : Forest) → IsSoundRow spaces tiled room row → in_row w row ≡ true → 1 ≤ count (space_of w) row
row_space w tiled room end s h = cc
row_space w tiled room (con part kids floats rest) s h = by_test (same part.id w) part.kind refl s.0 (row_space w tiled room rest s.4) h
  where
    by_test : (b : Bool) (kind : NodeKind) → same part.id w ≡ b → IsNode spaces tiled room part.id kind part.marks kids → (in_row w rest ≡ true → 1 ≤ count (space_of w) rest) → (b || in_row w rest) ≡ true
        → 1 ≤ cond (same part.id w) (one_space kind) 0 + count (space_of w) kids + count (space_of w) floats + count (space_of w) rest
    by_test b (Root c) e n f h = absurd n
    by_test b (Output o) e n f h = absurd n
    by_test b (Con c) e n f h = absurd n
    by_test true (Space x) e n f h = rw e (omega arith)
    by_test false (Space x) e n f h = omega (arith, f h)

shown_space_counts : (c : ConId) (row : Forest) → IsSoundRow outputs true 32 row → in_row c row ≡ true
    → 1 ≤ count (space_of (or_id (kind_by shown_of (first_part (node_in c row))) c)) (first_kids (node_in c row))
shown_space_counts c end s h = cc
shown_space_counts c (con part kids floats rest) s h = by_test (same part.id c) (shown_space_counts c rest s.4) h
  where
    by_kind : (kind : NodeKind) → IsNode outputs true 32 part.id kind part.marks kids → 1 ≤ count (space_of (or_id (shown_of kind) c)) kids
    by_kind (Root d) n = absurd n
    by_kind (Output o) n = row_space o.shown true (room_below 32 part.kind) kids s.2 n.1
    by_kind (Space w) n = absurd n
    by_kind (Con d) n = absurd n

    by_test : (b : Bool) → (in_row c rest ≡ true → 1 ≤ count (space_of (or_id (kind_by shown_of (first_part (node_in c rest))) c)) (first_kids (node_in c rest))) → (b || in_row c rest) ≡ true
        → 1 ≤ count (space_of (or_id (kind_by shown_of (first_part (cond b (con part kids floats rest) (node_in c rest)))) c)) (first_kids (cond b (con part kids floats rest) (node_in c rest)))
    by_test true f h = by_kind part.kind s.0
    by_test false f h = f h

pub shown_takes : (t : TreeValue) → IsSound t → TakesFirst (first_part (only (shown t) t.nodes))
shown_takes t s =
    let w = shown t in
    let there = shown_space_counts (current t) (first_kids t.nodes) (outputs_of t.nodes s.shaped) (current_there t.nodes s.shaped s.rooted) in
    space_found w t.nodes (s.once w) (shown_has t s)
    (omega (arith, there, count_kids (space_of w) (current_row t), count_from (space_of w) (current t) (first_kids t.nodes), count_kids (space_of w) t.nodes))

-- ---- a new window's place

abbrev pub Fits : TreeValue → Place → Type 0
Fits t p = (has (named p) t.nodes ≡ true) × IsPlace p t.nodes

part_there : (c : ConId) (f : Forest) → kind_by con_kind (first_part (only c f)) ≢ None → has c f ≡ true
part_there c f ok = by_test (has c f) refl
  where
    by_test : (b : Bool) → has c f ≡ b → has c f ≡ true
    by_test true e = e
    by_test false e = absurd (ok (rw (only_absent c f e) refl))

con_is : (part : Option Part) → is_con part ≡ true → kind_by con_kind part ≢ None
con_is None h = cc
con_is (Some part) h = by_kind part.kind h
  where
    by_kind : (kind : NodeKind) → is_con (Some (record part { kind = kind })) ≡ true → con_kind kind ≢ None
    by_kind (Root c) h = cc
    by_kind (Output o) h = cc
    by_kind (Space w) h = cc
    by_kind (Con c) h = λ e. cc

both : (a b : Bool) → (a && b) ≡ true → (a ≡ true) × (b ≡ true)
both true true h = (refl, refl)
both true false h = cc
both false b h = cc

pub after_fits : (t : TreeValue) (c : ConId) → is_tiled_con t c ≡ true → Fits t (After c)
after_fits t c h =
    let k = both (is_con (first_part (only c t.nodes))) (is_tiled (spot_in top c t.nodes)) h in
    let ok = con_is (first_part (only c t.nodes)) k.0 in
    (part_there c t.nodes ok, λ there. (ok, k.1))

pub place_fits : (t : TreeValue) → IsSound t → Fits t (newcomer_place t)
place_fits t s = by_test (same (focused t) (shown t)) (is_tiled_con t (focused t)) (is_tiled_con t (or_id (leaf t (shown t)) (shown t))) refl refl
  where
    last : Fits t (Last (shown t))
    last = (shown_has t s, λ there. shown_takes t s)

    by_test : (a b d : Bool) → is_tiled_con t (focused t) ≡ b → is_tiled_con t (or_id (leaf t (shown t)) (shown t)) ≡ d
        → Fits t (cond a (Last (shown t)) (cond b (After (focused t)) (cond d (After (or_id (leaf t (shown t)) (shown t))) (Last (shown t)))))
    by_test true b d eb ed = last
    by_test false true d eb ed = after_fits t (focused t) eb
    by_test false false true eb ed = after_fits t (or_id (leaf t (shown t)) (shown t)) ed
    by_test false false false eb ed = last

-- the same of a place that is the newcomer's
pub fits_by : (t : TreeValue) (p : Place) → p ≡ newcomer_place t → IsSound t → Fits t p
fits_by t p e s = rw e (place_fits t s)
