-- What is found of a window is what looking for its id gives.
use Rattle.std.proofs.Common.{◌≡◌, ◌≤◌, ℕ, suc, Bool, true, false, cond, not, List, [], ◌∷◌, ◌++◌, Option, Some, None, refl, ap, sym, ◌∙◌, arith}
use Rattle.std.specs.BTreeMap.{insert_entry}
use Rattle.std.specs.Option.{option_or}
use Rattle.std.specs.Ordering.{nat_cmp}
use Rattle.wm_base.specs.declared.ids.ConId.{ConId}
use Rattle.wm_changes.specs.declared.standing.Standing.{Standing}
use Rattle.wm_changes.specs.Differing.{last_of, listed}
use Rattle.wm_changes.specs.FactLaws.{IsFound, StandsAt}
use Rattle.wm_forest.specs.Change.{is_window_kind}
use Rattle.wm_changes.specs.Facts.{WindowFact, float_standing, kid_standing, put_windows, top, window_by, window_here, windows, windows_in}
use Rattle.wm_forest.proofs.CountLemmas.{counted, tally-absent}
use Rattle.wm_forest.specs.declared.part.ConKind.{ConKind}
use Rattle.wm_forest.specs.declared.part.ConKind.TheVariants.{Split, Window, Placeholder}
use Rattle.wm_forest.specs.declared.part.ConPart.{ConPart}
use Rattle.wm_forest.specs.declared.part.NodeKind.{NodeKind}
use Rattle.wm_forest.specs.declared.part.NodeKind.TheVariants.{Root, Output, Space, Con}
use Rattle.wm_forest.specs.declared.part.Part.{Part}
use Rattle.wm_forest.specs.declared.spot.Spot.{Spot}
use Rattle.wm_forest.specs.Forest.{Forest, end, con}
use Rattle.wm_forest.specs.Look.{con_kind, first_part, has, kind_by, kind_of, only, same}
use Rattle.wm_forest.specs.SoundRow.{one_of, tally}
use Rattle.wm_forest.specs.Spot.{spot_below, spot_in, spot_of}
use Rattle.wm_forest.specs.Spot as spots
use Rattle.wm_tree.specs.Sound.{IsSound}
use Rattle.wm_tree.specs.TreeValue.{TreeValue, spot}
use Rattle.wm_views.proofs.MapLemmas.{find_insert, or_assoc, or_none}
use Rattle.wm_views.specs.Maps.{value_at}

-- the last window of a list with an id is what is found of all that were put in, or else what was there
pub put_last : (c : ConId) (ww : List WindowFact) (done : List (ℕ × WindowFact)) → value_at (put_windows ww done) c ≡ option_or (last_of c ww) (value_at done c)
put_last c [] done = refl
put_last c (w ∷ ww) done =
    put_last c ww (insert_entry nat_cmp done w.part.id.0 w) ∙ (ap (option_or (last_of c ww)) (find_insert w.part.id c w done) ∙ by_cases (last_of c ww) (same w.part.id c) (value_at done c))
  where
    by_cases : (o : Option WindowFact) (b : Bool) (was : Option WindowFact) → option_or o (cond b (Some w) was) ≡ option_or (option_or o (cond b (Some w) None)) was
    by_cases (Some x) b was = refl
    by_cases None true was = refl
    by_cases None false was = refl

pub last_append : (c : ConId) (xs ys : List WindowFact) → last_of c (xs ++ ys) ≡ option_or (last_of c ys) (last_of c xs)
last_append c [] ys = or_none (last_of c ys)
last_append c (x ∷ xs) ys = ap (λ o. option_or o (cond (same x.part.id c) (Some x) None)) (last_append c xs ys) ∙ regroup (last_of c ys) (last_of c xs) (cond (same x.part.id c) (Some x) None)
  where
    regroup : (o p q : Option WindowFact) → option_or (option_or o p) q ≡ option_or o (option_or p q)
    regroup (Some y) p q = refl
    regroup None p q = refl

-- that of three lists is that of the last one that has it
pub last_three : (c : ConId) (here kids floats : List WindowFact) → option_or (option_or (last_of c floats) (last_of c kids)) (last_of c here) ≡ last_of c (here ++ kids ++ floats)
last_three c here kids floats =
    or_assoc (last_of c floats) (last_of c kids) (last_of c here)
    ∙ sym (last_append c (here ++ kids) floats ∙ ap (option_or (last_of c floats)) (last_append c here kids))

-- that behind a list comes before what was found so far
pub last_more : (c : ConId) (here rest : List WindowFact) (found : Option WindowFact) → option_or (last_of c rest) (option_or (last_of c here) found) ≡ option_or (last_of c (here ++ rest)) found
last_more c here rest found = sym (ap (λ o. option_or o found) (last_append c here rest) ∙ or_assoc (last_of c rest) (last_of c here) found)

-- that of all is what the map has
pub last_found : (t : TreeValue) (c : ConId) → last_of c (windows_in top t.nodes) ≡ value_at (windows t) c
last_found t c = or_none (last_of c (windows_in top t.nodes)) ∙ sym (put_last c (windows_in top t.nodes) [])

-- ---- one node

none_listed : (o : Option WindowFact) → listed o ≡ [] → o ≡ None
none_listed None h = refl
none_listed (Some w) h = cc

one_listed : (o : Option WindowFact) (w : WindowFact) → listed o ≡ w ∷ [] → o ≡ Some w
one_listed None w h = cc
one_listed (Some v) w h = let same : v ≡ w = cc in ap Some same

-- what there is of a node with this id is its window
pub last_own : (c : ConId) (s : Standing) (part : Part) (kind : NodeKind) (found : Option WindowFact) → same part.id c ≡ true → listed found ≡ window_here s part (con_kind kind)
    → found ≡ last_of c (window_here s part (con_kind kind))
last_own c s part (Root d) found h is = none_listed found is
last_own c s part (Output o) found h is = none_listed found is
last_own c s part (Space w) found h is = none_listed found is
last_own c s part (Con k) found h is = by_kind k.kind is
  where
    by_kind : (kind : ConKind) → listed found ≡ window_by s part k kind → found ≡ last_of c (window_by s part k kind)
    by_kind (Split layout last) is = none_listed found is
    by_kind (Window props owner natural) is = rw (h) (one_listed found (record { part = part; state = k; standing = s }) is)
    by_kind (Placeholder props swallows) is = none_listed found is

-- a node of another id is not found
pub other_here : (c : ConId) (s : Standing) (part : Part) (kind : NodeKind) → same part.id c ≡ false → last_of c (window_here s part (con_kind kind)) ≡ None
other_here c s part (Root d) h = refl
other_here c s part (Output o) h = refl
other_here c s part (Space w) h = refl
other_here c s part (Con k) h = by_kind k.kind
  where
    by_kind : (kind : ConKind) → last_of c (window_by s part k kind) ≡ None
    by_kind (Split layout last) = refl
    by_kind (Window props owner natural) = rw (h) refl
    by_kind (Placeholder props swallows) = refl

abbrev Found : Option WindowFact → Option ConPart → Option Spot → Type 0
Found found state place = IsFound found state place

-- the node itself
own_here : (c : ConId) (s : Standing) (p : Spot) (part : Part) (kind : NodeKind) → part.kind ≡ kind → same part.id c ≡ true → StandsAt s p → Found (last_of c (window_here s part (con_kind kind))) (con_kind kind) (Some (record p { space = spots.space_by p.space part.id kind }))
own_here c s p part (Root d) is h at = refl
own_here c s p part (Output o) is h at = refl
own_here c s p part (Space w) is h at = refl
own_here c s p part (Con k) is h at = by_kind k.kind refl
  where
    by_kind : (kind : ConKind) → k.kind ≡ kind → Found (last_of c (window_by s part k kind)) (Some k) (Some (record p { space = p.space }))
    by_kind (Split layout last) is_kind = ap is_window_kind is_kind
    by_kind (Window props owner natural) is_kind = rw (h) (refl, ap is_window_kind is_kind, at)
    by_kind (Placeholder props swallows) is_kind = ap is_window_kind is_kind

-- ---- a row

-- what is found of a row whose first node is the one, or holds it, or does not
step : (b1 b2 b3 : Bool) (h k f r : Option WindowFact) (part : Part) (kids floats rest kids_node floats_node rest_node : Forest) (own below beside behind : Option Spot)
    → (b1 ≡ true → Found h (con_kind part.kind) own) → (b1 ≡ false → h ≡ None)
    → (b2 ≡ true → Found k (kind_by con_kind (first_part kids_node)) below) → (b2 ≡ false → k ≡ None)
    → (b3 ≡ true → Found f (kind_by con_kind (first_part floats_node)) beside) → (b3 ≡ false → f ≡ None)
    → Found r (kind_by con_kind (first_part rest_node)) behind
    → (b1 ≡ true → (k ≡ None) × (f ≡ None) × (r ≡ None)) → (b2 ≡ true → (f ≡ None) × (r ≡ None)) → (b3 ≡ true → r ≡ None)
    → Found (option_or r (option_or f (option_or k h))) (kind_by con_kind (first_part (cond b1 (con part kids floats end) (cond b2 kids_node (cond b3 floats_node rest_node))))) (cond b1 own (cond b2 below (cond b3 beside behind)))
step true b2 b3 h k f r part kids floats rest kids_node floats_node rest_node own below beside behind is_own no_own is_below no_below is_beside no_beside is_behind lone1 lone2 lone3 =
    let none = lone1 refl in rw (none.0, none.1, none.2) (is_own refl)
step false true b3 h k f r part kids floats rest kids_node floats_node rest_node own below beside behind is_own no_own is_below no_below is_beside no_beside is_behind lone1 lone2 lone3 =
    let none = lone2 refl in rw (no_own refl, none.0, none.1, ← or_none k) (is_below refl)
step false false true h k f r part kids floats rest kids_node floats_node rest_node own below beside behind is_own no_own is_below no_below is_beside no_beside is_behind lone1 lone2 lone3 =
    rw (no_own refl, no_below refl, lone3 refl, ← or_none f) (is_beside refl)
step false false false h k f r part kids floats rest kids_node floats_node rest_node own below beside behind is_own no_own is_below no_below is_beside no_beside is_behind lone1 lone2 lone3 =
    rw (no_own refl, no_below refl, no_beside refl, ← or_none r) is_behind

-- one where it holds
abbrev count_of : Bool → ℕ
count_of true = 1
count_of false = 0

counts_one : (c : ConId) (part : Part) → one_of c part ≡ count_of (same part.id c)
counts_one c part = by_same (same part.id c)
  where
    by_same : (b : Bool) → cond b (suc 0) 0 ≡ count_of b
    by_same true = refl
    by_same false = refl

pub zero_other : (c : ConId) (part : Part) → one_of c part ≡ 0 → same part.id c ≡ false
zero_other c part h = by_same (same part.id c) (sym (counts_one c part) ∙ h)
  where
    by_same : (b : Bool) → count_of b ≡ 0 → b ≡ false
    by_same true z = absurd (omega (arith, z))
    by_same false z = refl

pub own_one : (c : ConId) (part : Part) → same part.id c ≡ true → one_of c part ≡ 1
own_one c part h = rw (h) refl

row_last : (c : ConId) (s : Standing) (part : Part) (kids floats rest : Forest)
    → last_of c (windows_in s (con part kids floats rest))
    ≡ option_or (last_of c (windows_in s rest)) (option_or (last_of c (windows_in (float_standing s part) floats)) (option_or (last_of c (windows_in (kid_standing s part kids) kids)) (last_of c (window_here s part (con_kind part.kind)))))
row_last c s part kids floats rest =
    let here : List WindowFact = window_here s part (con_kind part.kind) in
    let below : List WindowFact = windows_in (kid_standing s part kids) kids in
    let beside : List WindowFact = windows_in (float_standing s part) floats in
    let behind : List WindowFact = windows_in s rest in
    last_append c (here ++ below ++ beside) behind
    ∙ ap (option_or (last_of c behind)) (last_append c (here ++ below) beside ∙ ap (option_or (last_of c beside)) (last_append c here below))

-- an id that no node has is not found
none_in : (c : ConId) (s : Standing) (f : Forest) → tally c f ≡ 0 → last_of c (windows_in s f) ≡ None
none_in c s end zero = refl
none_in c s (con part kids floats rest) zero =
    let own : one_of c part ≡ 0 = omega (arith, zero) in
    let kids_zero : tally c kids ≡ 0 = omega (arith, zero) in
    let floats_zero : tally c floats ≡ 0 = omega (arith, zero) in
    let rest_zero : tally c rest ≡ 0 = omega (arith, zero) in
    row_last c s part kids floats rest
    ∙ rw (
      other_here c s part part.kind (zero_other c part own),
      none_in c (kid_standing s part kids) kids kids_zero,
      none_in c (float_standing s part) floats floats_zero,
      none_in c s rest rest_zero,
    ) refl

below_stands : (tiled : Bool) (s below : Standing) (p : Spot) (part : Part) → StandsAt s p → below.holder ≡ (spot_below tiled p part).holder → below.space ≡ spots.space_at s.space part → below.floating ≡ not tiled
    → StandsAt below (spot_below tiled p part)
below_stands tiled s below p part at holder space floating = (holder, space ∙ ap (λ o. spots.space_at o part) at.1, floating)

-- what is found of a row is what looking in it gives
found_in : (c : ConId) (s : Standing) (p : Spot) (f : Forest) → tally c f ≤ 1 → StandsAt s p → IsFound (last_of c (windows_in s f)) (kind_of con_kind c f) (spot_in p c f)
found_in c s p end once at = refl
found_in c s p (con part kids floats rest) once at =
    let kids_once : tally c kids ≤ 1 = omega (arith, once) in
    let floats_once : tally c floats ≤ 1 = omega (arith, once) in
    let rest_once : tally c rest ≤ 1 = omega (arith, once) in
    rw (row_last c s part kids floats rest) (
    step (same part.id c) (has c kids) (has c floats)
    (last_of c (window_here s part (con_kind part.kind))) (last_of c (windows_in (kid_standing s part kids) kids)) (last_of c (windows_in (float_standing s part) floats)) (last_of c (windows_in s rest))
    part kids floats rest (only c kids) (only c floats) (only c rest)
    (Some (spot_of p part)) (spot_in (spot_below true p part) c kids) (spot_in (spot_below false p part) c floats) (spot_in p c rest)
    (λ h. own_here c s p part part.kind refl h at)
    (λ h. other_here c s part part.kind h)
    (λ h. found_in c (kid_standing s part kids) (spot_below true p part) kids kids_once (below_stands true s (kid_standing s part kids) p part at refl refl refl))
    (λ h. none_in c (kid_standing s part kids) kids (tally-absent c kids h))
    (λ h. found_in c (float_standing s part) (spot_below false p part) floats floats_once (below_stands false s (float_standing s part) p part at refl refl refl))
    (λ h. none_in c (float_standing s part) floats (tally-absent c floats h))
    (found_in c s p rest rest_once at)
    (λ h.
    let one : one_of c part ≡ 1 = own_one c part h in
    (none_in c (kid_standing s part kids) kids (omega (arith, once, one)), none_in c (float_standing s part) floats (omega (arith, once, one)), none_in c s rest (omega (arith, once, one))))
    (λ h. let one : 1 ≤ tally c kids = counted c kids h in (none_in c (float_standing s part) floats (omega (arith, once, one)), none_in c s rest (omega (arith, once, one))))
    (λ h. let one : 1 ≤ tally c floats = counted c floats h in none_in c s rest (omega (arith, once, one)))
    )

-- each window of a sound tree is found, as it is and where it stands, and nothing else is
pub windows_found : (t : TreeValue) (c : ConId) → IsSound t → IsFound (value_at (windows t) c) (kind_of con_kind c t.nodes) (spot t c)
windows_found t c sound = rw (← last_found t c) (found_in c top spots.top t.nodes (sound.once c) (refl, refl, refl))
