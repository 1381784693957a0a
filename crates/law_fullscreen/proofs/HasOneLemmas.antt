-- Of sound trees: each workspace has at most one fullscreen container, as the node says, and counted row by row.
use Rattle.std.proofs.Common.{◌≡◌, ◌≢◌, ℕ, ◌≤◌, Bool, true, false, cond, Option, None, Some, List, refl, ap, sym, ◌∙◌, arith}
use Rattle.wm_base.specs.declared.ids.ConId.{ConId}
use Rattle.law_fullscreen.proofs.FullLemmas.{space_id, spaces_tallied, within-none}
use Rattle.law_fullscreen.proofs.WithinLemmas.{space_in, within-most, within-without}
use Rattle.law_fullscreen.specs.Fullscreen.{HasOne, IsSingle, full_count, full_of, within}
use Rattle.wm_forest.proofs.CountLemmas.{count-without, found_counted, tally-absent}
use Rattle.wm_tree.proofs.MoveLemmas.{found_alone}
use Rattle.wm_forest.proofs.RecencyLemmas.{same_is, same_self}
use Rattle.wm_tree.proofs.SpaceRows.{found_space}
use Rattle.wm_forest.specs.Change.{is_id, without}
use Rattle.wm_forest.specs.Counts.{count, one_space, row_length}
use Rattle.wm_forest.specs.declared.part.NodeKind.{NodeKind}
use Rattle.wm_forest.specs.declared.part.NodeKind.TheVariants.{Root, Output, Space, Con}
use Rattle.wm_forest.specs.declared.part.SpacePart.{SpacePart}
use Rattle.wm_forest.specs.Forest.{Forest, end, con}
use Rattle.wm_forest.specs.Look.{first_part, has, kind_by, kind_of, only, same, space_kind}
use Rattle.wm_forest.specs.SoundRow.{IsNode, IsSoundRow, containers, one_of, spaces, tally}
use Rattle.wm_tree.specs.Sound.{IsSound}
use Rattle.wm_forest.specs.Spot.{room_below, space_at, space_by, spot_in, top}
use Rattle.wm_tree.specs.TreeValue.{TreeValue}

-- the first node of the row, if there is one, is c
abbrev pub IsFirst : ConId → Forest → Type 0
IsFirst c end = Unit {0}
IsFirst c (con part kids floats rest) = same part.id c ≡ true

pub first_found : (c : ConId) (f : Forest) → IsFirst c (only c f)
first_found c end = tt
first_found c (con part kids floats rest) = step (same part.id c) (has c kids) (has c floats) refl (first_found c kids) (first_found c floats) (first_found c rest)
  where
    step : (a k l : Bool) → same part.id c ≡ a → IsFirst c (only c kids) → IsFirst c (only c floats) → IsFirst c (only c rest)
        → IsFirst c (cond a (con part kids floats end) (cond k (only c kids) (cond l (only c floats) (only c rest))))
    step true k l e p q r = e
    step false true l e p q r = p
    step false false true e p q r = q
    step false false false e p q r = r

-- ---- a workspace counts all that it holds

con_space : (space : Option ConId) (tiled : Bool) (room : ℕ) (id : ConId) (kind : NodeKind) (marks : List (List ℕ)) (kids : Forest) → IsNode containers tiled room id kind marks kids → space_by space id kind ≡ space
con_space space tiled room id (Root c) marks kids n = absurd n
con_space space tiled room id (Output o) marks kids n = absurd n
con_space space tiled room id (Space s) marks kids n = absurd n
con_space space tiled room id (Con c) marks kids n = refl

within-all : (w : ConId) (space : Option ConId) (tiled : Bool) (room : ℕ) (f : Forest) → is_id w space ≡ true → IsSoundRow containers tiled room f → within full_of w space f ≡ count full_of f
within-all w space tiled room end e p = refl
within-all w space tiled room (con part kids floats rest) e p =
    let at : space_at space part ≡ space = con_space space tiled room part.id part.kind part.marks kids p.0 in
    let own : cond (is_id w space) (full_of part) 0 ≡ full_of part = ap (λ b. cond b (full_of part) 0) e in
    rw at
    (omega (
      arith,
      own,
      within-all w space true (room_below room part.kind) kids e p.2,
      within-all w space false (room_below room part.kind) floats e p.3,
      within-all w space tiled room rest e p.4,
    ))

space_counts : (w : ConId) (space : Option ConId) (f : Forest) → IsFirst w f → row_length f ≤ 1 → IsSoundRow spaces true 32 f → count full_of f ≤ within full_of w space f
space_counts w space end first one p = omega arith
space_counts w space (con part kids floats (con q k l r)) first one p = absurd (omega (arith, one))
space_counts w space (con part kids floats end) first one p = by part.kind refl p.0
  where
    own : same w part.id ≡ true
    own = same_self w part.id (sym (same_is part.id w first))

    by : (kind : NodeKind) → part.kind ≡ kind → IsNode spaces true 32 part.id kind part.marks kids → count full_of (con part kids floats end) ≤ within full_of w space (con part kids floats end)
    by (Root c) e n = absurd n
    by (Output o) e n = absurd n
    by (Space s) e n =
        let at : space_at space part ≡ Some part.id = ap (λ z. space_by space part.id z) e in
        let none : full_of part ≡ 0 = rw e refl in
        rw at
        (omega (arith, none, within-all w (Some part.id) true (room_below 32 part.kind) kids own p.2, within-all w (Some part.id) false (room_below 32 part.kind) floats own p.3))
    by (Con c) e n = absurd n

-- ---- and nothing else counts there

-- without the node no id is that of w
pub left_none : (w : ConId) (f : Forest) → tally w f ≤ 1 → tally w (without w f) ≡ 0
left_none w f once = by (has w f) refl
  where
    by : (b : Bool) → has w f ≡ b → tally w (without w f) ≡ 0
    by true e = omega (arith, once, found_counted w f e, count-without (one_of w) w f)
    by false e = omega (arith, tally-absent w f e, count-without (one_of w) w f)

no_space : (w : ConId) (f : Forest) → IsFirst w f → tally w f ≤ 1 → kind_by space_kind (first_part f) ≡ None → count (space_id w) f ≡ 0
no_space w end first once none = refl
no_space w (con part kids floats rest) first once none =
    let one : one_of w part ≡ 1 = ap (λ b. cond {A = ℕ} b 1 0) first in
    omega (arith, one, once, own (same part.id w) part.kind none, spaces_tallied w kids, spaces_tallied w floats, spaces_tallied w rest)
  where
    own : (b : Bool) (kind : NodeKind) → space_kind kind ≡ None → cond b (one_space kind) 0 ≡ 0
    own true (Root c) e = refl
    own true (Output o) e = refl
    own true (Space s) e = cc
    own true (Con c) e = refl
    own false kind e = refl

-- what is no workspace has nothing in it
pub none_counted : (w : ConId) (t : TreeValue) → IsSound t → kind_of space_kind w t.nodes ≡ None → within full_of w None t.nodes ≡ 0
none_counted w t s e =
    let f : Forest = t.nodes in
    let found : count (space_id w) (only w f) ≡ 0 = no_space w (only w f) (first_found w f) (omega (arith, s.once w, count-without (one_of w) w f)) e in
    let all : count (space_id w) f ≡ 0 = omega (arith, found, left_none w f (s.once w), spaces_tallied w (without w f), count-without (space_id w) w f) in
    within-none full_of w None f all refl

-- a workspace's own count and the count row by row are one
pub counted_alike : (w : ConId) (t : TreeValue) → IsSound t → kind_of space_kind w t.nodes ≢ None → full_count w t ≡ within full_of w None t.nodes
counted_alike w t s ok =
    let f : Forest = t.nodes in
    let outside : within full_of w None (without w f) ≡ 0 = within-none full_of w None (without w f) (omega (arith, left_none w f (s.once w), spaces_tallied w (without w f))) refl in
    let most : within full_of w (space_in (spot_in top w f)) (only w f) ≤ count full_of (only w f) = within-most full_of w (space_in (spot_in top w f)) (only w f) in
    let least : count full_of (only w f) ≤ within full_of w (space_in (spot_in top w f)) (only w f) =
    space_counts w (space_in (spot_in top w f)) (only w f) (first_found w f) (found_alone w f) (found_space w f ok s.shaped) in
    omega (arith, outside, most, least, within-without full_of w w top f)

pub single_has : (t : TreeValue) → IsSound t → IsSingle t.nodes → HasOne t
single_has t s one w ok = omega (arith, one w, counted_alike w t s ok)

pub has_single : (t : TreeValue) → IsSound t → HasOne t → IsSingle t.nodes
has_single t s one w = by (kind_of space_kind w t.nodes) refl
  where
    by : (o : Option SpacePart) → kind_of space_kind w t.nodes ≡ o → within full_of w None t.nodes ≤ 1
    by None e = omega (arith, none_counted w t s e)
    by (Some p) e =
        let is : kind_of space_kind w t.nodes ≢ None = λ none. (let bad : Some p ≡ None = sym e ∙ none in cc) in
        omega (arith, one w is, counted_alike w t s is)
