-- What is found of a workspace is what looking for its id gives.
use Rattle.std.proofs.Common.{◌≡◌, ◌≤◌, ℕ, Bool, true, false, cond, List, [], ◌∷◌, ◌++◌, Option, Some, None, refl, ap, ◌∙◌, arith}
use Rattle.std.specs.BTreeMap.{insert_entry}
use Rattle.std.specs.Option.{option_or}
use Rattle.std.specs.Ordering.{nat_cmp}
use Rattle.wm_base.specs.declared.ids.ConId.{ConId}
use Rattle.wm_changes.specs.FactLaws.{IsFoundSpace}
use Rattle.wm_changes.specs.Facts.{SpaceFact, put_spaces, space_here, spaces, spaces_in, spaces_of, spaces_on}
use Rattle.wm_changes.proofs.FoundLemmas.{own_one, zero_other}
use Rattle.wm_forest.proofs.CountLemmas.{counted, tally-absent}
use Rattle.wm_forest.specs.declared.part.NodeKind.{NodeKind}
use Rattle.wm_forest.specs.declared.part.NodeKind.TheVariants.{Root, Output, Space, Con}
use Rattle.wm_forest.specs.declared.part.OutputPart.{OutputPart}
use Rattle.wm_forest.specs.declared.part.Part.{Part}
use Rattle.wm_forest.specs.declared.part.SpacePart.{SpacePart}
use Rattle.wm_forest.specs.declared.spot.Spot.{Spot}
use Rattle.wm_forest.specs.Forest.{Forest, end, con}
use Rattle.wm_forest.specs.Look.{first_kids, first_part, has, kind_by, kind_of, only, output_kind, same, space_kind}
use Rattle.wm_forest.specs.RootId.{root}
use Rattle.wm_forest.specs.SoundRow.{IsNode, IsSoundRow, roots, outputs, containers, below, one_of, tally}
use Rattle.wm_forest.specs.SoundRow as levels
use Rattle.wm_forest.specs.Spot.{room_below, spot_below, spot_in, spot_of}
use Rattle.wm_forest.specs.Spot as spots
use Rattle.wm_tree.specs.Sound.{IsSound}
use Rattle.wm_tree.specs.TreeValue.{TreeValue, spot}
use Rattle.wm_views.proofs.MapLemmas.{find_insert, or_none}
use Rattle.wm_views.specs.Maps.{value_at}

-- the last workspace of a list with this id
abbrev last_of : ConId → List SpaceFact → Option SpaceFact
last_of c [] = None
last_of c (s ∷ ss) = option_or (last_of c ss) (cond (same s.part.id c) (Some s) None)

-- that is what is found of all that were put in, or else what was there
put_last : (c : ConId) (ss : List SpaceFact) (done : List (ℕ × SpaceFact)) → value_at (put_spaces ss done) c ≡ option_or (last_of c ss) (value_at done c)
put_last c [] done = refl
put_last c (s ∷ ss) done =
    put_last c ss (insert_entry nat_cmp done s.part.id.0 s) ∙ (ap (option_or (last_of c ss)) (find_insert s.part.id c s done) ∙ by_cases (last_of c ss) (same s.part.id c) (value_at done c))
  where
    by_cases : (o : Option SpaceFact) (b : Bool) (was : Option SpaceFact) → option_or o (cond b (Some s) was) ≡ option_or (option_or o (cond b (Some s) None)) was
    by_cases (Some x) b was = refl
    by_cases None true was = refl
    by_cases None false was = refl

last_append : (c : ConId) (xs ys : List SpaceFact) → last_of c (xs ++ ys) ≡ option_or (last_of c ys) (last_of c xs)
last_append c [] ys = or_none (last_of c ys)
last_append c (x ∷ xs) ys = ap (λ o. option_or o (cond (same x.part.id c) (Some x) None)) (last_append c xs ys) ∙ regroup (last_of c ys) (last_of c xs) (cond (same x.part.id c) (Some x) None)
  where
    regroup : (o p q : Option SpaceFact) → option_or (option_or o p) q ≡ option_or o (option_or p q)
    regroup (Some y) p q = refl
    regroup None p q = refl

-- ---- no workspace below a workspace

-- what looking gives, by where the id is
abbrev SpaceOf : Forest → Option SpacePart
SpaceOf f = kind_by space_kind (first_part f)

choose_none : (b1 b2 b3 : Bool) (own kids floats rest : Forest) → SpaceOf own ≡ None → SpaceOf kids ≡ None → SpaceOf floats ≡ None → SpaceOf rest ≡ None → SpaceOf (cond b1 own (cond b2 kids (cond b3 floats rest))) ≡ None
choose_none true b2 b3 own kids floats rest h k f r = h
choose_none false true b3 own kids floats rest h k f r = k
choose_none false false true own kids floats rest h k f r = f
choose_none false false false own kids floats rest h k f r = r

con_none : (tiled : Bool) (room : ℕ) (id : ConId) (kind : NodeKind) (marks : List (List ℕ)) (kids : Forest) → IsNode containers tiled room id kind marks kids → space_kind kind ≡ None
con_none tiled room id (Root c) marks kids h = absurd h
con_none tiled room id (Output o) marks kids h = absurd h
con_none tiled room id (Space w) marks kids h = absurd h
con_none tiled room id (Con c) marks kids h = refl

none_below : (c : ConId) (tiled : Bool) (room : ℕ) (f : Forest) → IsSoundRow containers tiled room f → kind_of space_kind c f ≡ None
none_below c tiled room end h = refl
none_below c tiled room (con part kids floats rest) h =
    choose_none (same part.id c) (has c kids) (has c floats) (con part kids floats end) (only c kids) (only c floats) (only c rest)
    (con_none tiled room part.id part.kind part.marks kids h.0)
    (none_below c true (room_below room part.kind) kids h.2)
    (none_below c false (room_below room part.kind) floats h.3)
    (none_below c tiled room rest h.4)

-- ---- a row

abbrev Found : Option SpaceFact → Option SpacePart → Option Spot → Type 0
Found found state place = IsFoundSpace found state place

-- what is found of a row whose first node is the one, or holds it, or does not
step : (b1 b2 b3 : Bool) (h k f r : Option SpaceFact) (part : Part) (kids floats rest kids_node floats_node rest_node : Forest) (own below beside behind : Option Spot)
    → (b1 ≡ true → Found h (space_kind part.kind) own) → (b1 ≡ false → h ≡ None)
    → (b2 ≡ true → Found k (SpaceOf kids_node) below) → (b2 ≡ false → k ≡ None)
    → (b3 ≡ true → Found f (SpaceOf floats_node) beside) → (b3 ≡ false → f ≡ None)
    → Found r (SpaceOf rest_node) behind
    → (b1 ≡ true → (k ≡ None) × (f ≡ None) × (r ≡ None)) → (b2 ≡ true → (f ≡ None) × (r ≡ None)) → (b3 ≡ true → r ≡ None)
    → Found (option_or r (option_or f (option_or k h))) (SpaceOf (cond b1 (con part kids floats end) (cond b2 kids_node (cond b3 floats_node rest_node)))) (cond b1 own (cond b2 below (cond b3 beside behind)))
step true b2 b3 h k f r part kids floats rest kids_node floats_node rest_node own below beside behind is_own no_own is_below no_below is_beside no_beside is_behind lone1 lone2 lone3 =
    let none = lone1 refl in rw (none.0, none.1, none.2) (is_own refl)
step false true b3 h k f r part kids floats rest kids_node floats_node rest_node own below beside behind is_own no_own is_below no_below is_beside no_beside is_behind lone1 lone2 lone3 =
    let none = lone2 refl in rw (no_own refl, none.0, none.1, ← or_none k) (is_below refl)
step false false true h k f r part kids floats rest kids_node floats_node rest_node own below beside behind is_own no_own is_below no_below is_beside no_beside is_behind lone1 lone2 lone3 =
    rw (no_own refl, no_below refl, lone3 refl, ← or_none f) (is_beside refl)
step false false false h k f r part kids floats rest kids_node floats_node rest_node own below beside behind is_own no_own is_below no_below is_beside no_beside is_behind lone1 lone2 lone3 =
    rw (no_own refl, no_below refl, no_beside refl, ← or_none r) is_behind

-- ---- the workspaces of an output

other_here : (c id : ConId) (o : OutputPart) (part : Part) (kind : NodeKind) (kids floats : Forest) → same part.id c ≡ false → last_of c (space_here id o part (space_kind kind) kids floats) ≡ None
other_here c id o part (Root d) kids floats h = refl
other_here c id o part (Output p) kids floats h = refl
other_here c id o part (Space w) kids floats h = rw (h) refl
other_here c id o part (Con k) kids floats h = refl

own_here : (c id : ConId) (o : OutputPart) (p : Spot) (part : Part) (kind : NodeKind) (kids floats : Forest) (place : Spot) → same part.id c ≡ true → place.holder ≡ Some id
    → Found (last_of c (space_here id o part (space_kind kind) kids floats)) (space_kind kind) (Some place)
own_here c id o p part (Root d) kids floats place h holder = refl
own_here c id o p part (Output q) kids floats place h holder = refl
own_here c id o p part (Space w) kids floats place h holder = rw (h) (refl, holder)
own_here c id o p part (Con k) kids floats place h holder = refl

none_on : (c id : ConId) (o : OutputPart) (f : Forest) → tally c f ≡ 0 → last_of c (spaces_on id o f) ≡ None
none_on c id o end zero = refl
none_on c id o (con part kids floats rest) zero =
    let own : one_of c part ≡ 0 = omega (arith, zero) in
    let rest_zero : tally c rest ≡ 0 = omega (arith, zero) in
    last_append c (space_here id o part (space_kind part.kind) kids floats) (spaces_on id o rest)
    ∙ rw (other_here c id o part part.kind kids floats (zero_other c part own), none_on c id o rest rest_zero) refl

found_on : (c id : ConId) (o : OutputPart) (p : Spot) (tiled : Bool) (room : ℕ) (f : Forest) → tally c f ≤ 1 → IsSoundRow levels.spaces tiled room f → p.holder ≡ Some id
    → Found (last_of c (spaces_on id o f)) (kind_of space_kind c f) (spot_in p c f)
found_on c id o p tiled room end once sound holder = refl
found_on c id o p tiled room (con part kids floats rest) once sound holder =
    let here : Option SpaceFact = last_of c (space_here id o part (space_kind part.kind) kids floats) in
    let behind : Option SpaceFact = last_of c (spaces_on id o rest) in
    let rest_once : tally c rest ≤ 1 = omega (arith, once) in
    rw (last_append c (space_here id o part (space_kind part.kind) kids floats) (spaces_on id o rest)) (
    step (same part.id c) (has c kids) (has c floats) here None None behind part kids floats rest (only c kids) (only c floats) (only c rest)
    (Some (spot_of p part)) (spot_in (spot_below true p part) c kids) (spot_in (spot_below false p part) c floats) (spot_in p c rest)
    (λ h. own_here c id o p part part.kind kids floats (spot_of p part) h holder)
    (λ h. other_here c id o part part.kind kids floats h)
    (λ h. none_below c true (room_below room part.kind) kids sound.2)
    (λ h. refl)
    (λ h. none_below c false (room_below room part.kind) floats sound.3)
    (λ h. refl)
    (found_on c id o p tiled room rest rest_once sound.4 holder)
    (λ h. let one : one_of c part ≡ 1 = own_one c part h in (refl, refl, none_on c id o rest (omega (arith, once, one))))
    (λ h. let one : 1 ≤ tally c kids = counted c kids h in (refl, none_on c id o rest (omega (arith, once, one))))
    (λ h. let one : 1 ≤ tally c floats = counted c floats h in none_on c id o rest (omega (arith, once, one)))
    )

-- ---- the workspaces on a row of outputs

none_of : (c id : ConId) (o : Option OutputPart) (f : Forest) → tally c f ≡ 0 → last_of c (spaces_of id o f) ≡ None
none_of c id None f zero = refl
none_of c id (Some o) f zero = none_on c id o f zero

none_in : (c : ConId) (f : Forest) → tally c f ≡ 0 → last_of c (spaces_in f) ≡ None
none_in c end zero = refl
none_in c (con part kids floats rest) zero =
    let kids_zero : tally c kids ≡ 0 = omega (arith, zero) in
    let rest_zero : tally c rest ≡ 0 = omega (arith, zero) in
    last_append c (spaces_of part.id (output_kind part.kind) kids) (spaces_in rest) ∙ rw (none_of c part.id (output_kind part.kind) kids kids_zero, none_in c rest rest_zero) refl

output_none : (tiled : Bool) (room : ℕ) (id : ConId) (kind : NodeKind) (marks : List (List ℕ)) (kids : Forest) → IsNode outputs tiled room id kind marks kids → space_kind kind ≡ None
output_none tiled room id (Root c) marks kids h = absurd h
output_none tiled room id (Output o) marks kids h = refl
output_none tiled room id (Space w) marks kids h = absurd h
output_none tiled room id (Con c) marks kids h = absurd h

holder_own : (id : ConId) (kind : NodeKind) → spots.holder_by true id kind ≡ Some id
holder_own id (Root c) = refl
holder_own id (Output o) = refl
holder_own id (Space w) = refl
holder_own id (Con c) = refl

found_of : (c : ConId) (tiled : Bool) (room below_room : ℕ) (id : ConId) (kind : NodeKind) (marks : List (List ℕ)) (kids : Forest) (p : Spot) → IsNode outputs tiled room id kind marks kids
    → tally c kids ≤ 1 → IsSoundRow levels.spaces true below_room kids → p.holder ≡ Some id → Found (last_of c (spaces_of id (output_kind kind) kids)) (kind_of space_kind c kids) (spot_in p c kids)
found_of c tiled room below_room id (Root d) marks kids p node once sound holder = absurd node
found_of c tiled room below_room id (Output o) marks kids p node once sound holder = found_on c id o p true below_room kids once sound holder
found_of c tiled room below_room id (Space w) marks kids p node once sound holder = absurd node
found_of c tiled room below_room id (Con k) marks kids p node once sound holder = absurd node

found_in : (c : ConId) (p : Spot) (tiled : Bool) (room : ℕ) (f : Forest) → tally c f ≤ 1 → IsSoundRow outputs tiled room f → Found (last_of c (spaces_in f)) (kind_of space_kind c f) (spot_in p c f)
found_in c p tiled room end once sound = refl
found_in c p tiled room (con part kids floats rest) once sound =
    let below : Option SpaceFact = last_of c (spaces_of part.id (output_kind part.kind) kids) in
    let behind : Option SpaceFact = last_of c (spaces_in rest) in
    let kids_once : tally c kids ≤ 1 = omega (arith, once) in
    let rest_once : tally c rest ≤ 1 = omega (arith, once) in
    rw (last_append c (spaces_of part.id (output_kind part.kind) kids) (spaces_in rest), or_none below) (
    step (same part.id c) (has c kids) (has c floats) None below None behind part kids floats rest (only c kids) (only c floats) (only c rest)
    (Some (spot_of p part)) (spot_in (spot_below true p part) c kids) (spot_in (spot_below false p part) c floats) (spot_in p c rest)
    (λ h. output_none tiled room part.id part.kind part.marks kids sound.0)
    (λ h. refl)
    (λ h. found_of c tiled room (room_below room part.kind) part.id part.kind part.marks kids (spot_below true p part) sound.0 kids_once sound.2 (holder_own part.id part.kind))
    (λ h. none_of c part.id (output_kind part.kind) kids (tally-absent c kids h))
    (λ h. none_below c false (room_below room part.kind) floats sound.3)
    (λ h. refl)
    (found_in c p tiled room rest rest_once sound.4)
    (λ h. let one : one_of c part ≡ 1 = own_one c part h in (none_of c part.id (output_kind part.kind) kids (omega (arith, once, one)), refl, none_in c rest (omega (arith, once, one))))
    (λ h. let one : 1 ≤ tally c kids = counted c kids h in (refl, none_in c rest (omega (arith, once, one))))
    (λ h. let one : 1 ≤ tally c floats = counted c floats h in none_in c rest (omega (arith, once, one)))
    )

-- ---- the tree

root_none : (tiled : Bool) (room : ℕ) (id : ConId) (kind : NodeKind) (marks : List (List ℕ)) (kids : Forest) → IsNode roots tiled room id kind marks kids → space_kind kind ≡ None
root_none tiled room id (Root c) marks kids h = refl
root_none tiled room id (Output o) marks kids h = absurd h
root_none tiled room id (Space w) marks kids h = absurd h
root_none tiled room id (Con c) marks kids h = absurd h

root_id : (tiled : Bool) (room : ℕ) (id : ConId) (kind : NodeKind) (marks : List (List ℕ)) (kids : Forest) → IsNode roots tiled room id kind marks kids → same id root ≡ true
root_id tiled room id (Root c) marks kids h = ap (λ i. same i root) h.0
root_id tiled room id (Output o) marks kids h = absurd h
root_id tiled room id (Space w) marks kids h = absurd h
root_id tiled room id (Con c) marks kids h = absurd h

found_root : (c : ConId) (p : Spot) (tiled : Bool) (room : ℕ) (f : Forest) → tally c f ≤ 1 → tally root f ≤ 1 → IsSoundRow roots tiled room f → Found (last_of c (spaces_in (first_kids f))) (kind_of space_kind c f) (spot_in p c f)
found_root c p tiled room end once once_root sound = refl
found_root c p tiled room (con part kids floats (con other below beside behind)) once once_root sound =
    let one : one_of root part ≡ 1 = own_one root part (root_id tiled room part.id part.kind part.marks kids sound.0) in
    let two : one_of root other ≡ 1 = own_one root other (root_id tiled room other.id other.kind other.marks below sound.4.0) in
    absurd (omega (arith, once_root, one, two))
found_root c p tiled room (con part kids floats end) once once_root sound =
    let all : Option SpaceFact = last_of c (spaces_in kids) in
    let kids_once : tally c kids ≤ 1 = omega (arith, once) in
    rw (or_none all) (
    step (same part.id c) (has c kids) (has c floats) None all None None part kids floats end (only c kids) (only c floats) end
    (Some (spot_of p part)) (spot_in (spot_below true p part) c kids) (spot_in (spot_below false p part) c floats) None
    (λ h. root_none tiled room part.id part.kind part.marks kids sound.0)
    (λ h. refl)
    (λ h. found_in c (spot_below true p part) true (room_below room part.kind) kids kids_once sound.2)
    (λ h. none_in c kids (tally-absent c kids h))
    (λ h. none_below c false (room_below room part.kind) floats sound.3)
    (λ h. refl)
    refl
    (λ h. let one : one_of c part ≡ 1 = own_one c part h in (none_in c kids (omega (arith, once, one)), refl, refl))
    (λ h. (refl, refl))
    (λ h. refl)
    )

-- each workspace of a sound tree is found, as it is and on its output, and nothing else is
pub spaces_found : (t : TreeValue) (c : ConId) → IsSound t → IsFoundSpace (value_at (spaces t) c) (kind_of space_kind c t.nodes) (spot t c)
spaces_found t c sound = rw (put_last c (spaces_in (first_kids t.nodes)) [], ← or_none (last_of c (spaces_in (first_kids t.nodes)))) (found_root c spots.top false 0 t.nodes (sound.once c) (sound.once root) sound.shaped)
