-- The place to which a container is sent is one where it may go.
use Rattle.std.proofs.Common.{◌≡◌, ◌≢◌, Bool, true, false, cond, ◌||◌, not, inl, inr, List, Option, None, Some, refl, ap, sym, ◌∙◌, subst}
use Rattle.std.specs.Option.{option_eq}
use Rattle.wm_base.specs.declared.ids.ConId.{ConId}
use Rattle.wm_shared.proofs.KidLemmas.{con_there}
use Rattle.wm_shared.proofs.ShowLemmas.{space_is}
use Rattle.wm_shared.proofs.SpaceLemmas.{IsSpaceIn, not_within}
use Rattle.wm_shared.specs.Refusing.{full_error, refusal_by}
use Rattle.wm_shared.specs.Showing.{shown_on}
use Rattle.wm_shared.specs.Subject.{is_space}
use Rattle.wm_shared.proofs.SpaceOfLemmas.{IsLow, LowKind, below_space}
use Rattle.wm_spaces.proofs.StandLemmas.{shown_stands_on}
use Rattle.wm_shared.proofs.StandingLemmas.{stands_space}
use Rattle.wm_spaces.specs.Sending.{sent_place, sent_refusal, shifted}
use Rattle.wm_shared.specs.Rects.{output_part_of, rect_of}
use Rattle.wm_tree.proofs.AlongLemmas.{space_there}
use Rattle.wm_forest.proofs.ForestLemmas.{first_held_end}
use Rattle.wm_tree.proofs.LeafLaws.{first_there}
use Rattle.wm_forest.proofs.OnceLemmas.{in_kids, in_rest}
use Rattle.wm_tree.proofs.PlaceLemmas.{after_fits}
use Rattle.wm_forest.proofs.RecencyLemmas.{same_self}
use Rattle.wm_forest.specs.declared.part.NodeKind.{NodeKind}
use Rattle.wm_forest.specs.declared.part.NodeKind.TheVariants.{Root, Output, Space, Con}
use Rattle.wm_forest.specs.declared.part.Part.{Part}
use Rattle.wm_forest.specs.declared.place.Place.{Place}
use Rattle.wm_forest.specs.declared.place.Place.TheVariants.{After, Last, Float}
use Rattle.wm_tree.specs.declared.refusal.TreeRefusal.{TreeRefusal}
use Rattle.wm_tree.specs.declared.refusal.TreeRefusal.TheVariants as refusals
use Rattle.wm_forest.specs.Forest.{Forest, end, con}
use Rattle.wm_forest.specs.Look.{con_kind, first_kids, first_part, has, in_row, kind_by, kind_of, only, same, space_kind}
use Rattle.wm_tree.specs.Move.{IsMove, IsMoveCause, apart, passed_by_move, same_space}
use Rattle.wm_forest.specs.Place.{IsPlace, TakesFirst, TakesKids, named}
use Rattle.wm_forest.specs.Recency.{first_held}
use Rattle.wm_tree.specs.Sound.{IsSound}
use Rattle.wm_tree.specs.TreeValue.{TreeValue, is_tiled_con, leaf, or_id, workspace_of}
use Rattle.wm_forest.specs.Focus.{follow, leaf_at, leaf_of, tiled_by}

-- ---- the leaf is below its node

leaf_at_has : (ids : List ConId) (row : Forest) (c : ConId) → has c row ≡ true → has (leaf_at ids row c) row ≡ true
leaf_at_has ids end c h = cc
leaf_at_has ids (con part kids floats rest) c h = step (same part.id c || has c kids || has c floats || false) refl (below (first_held kids ids) refl (leaf_at_has ids kids)) (leaf_at_has ids rest c)
  where
    here : has part.id (con part kids floats rest) ≡ true
    here = rw (same_self part.id part.id refl) refl

    below : (o : Option ConId) → first_held kids ids ≡ o → ((c : ConId) → has c kids ≡ true → has (leaf_at ids kids c) kids ≡ true) → has (follow part.id (leaf_at ids kids) o) (con part kids floats rest) ≡ true
    below None e f = here
    below (Some i) e f = in_kids (leaf_at ids kids i) part kids floats rest (f i (first_there kids ids i e))

    behind : (a k l r : Bool) → (a || k || l || false) ≡ false → (a || k || l || r) ≡ true → r ≡ true
    behind true k l r e h = cc
    behind false true l r e h = cc
    behind false false true r e h = cc
    behind false false false r e h = h

    step : (b : Bool) → (same part.id c || has c kids || has c floats || false) ≡ b → has (follow part.id (leaf_at ids kids) (first_held kids ids)) (con part kids floats rest) ≡ true
        → (has c rest ≡ true → has (leaf_at ids rest c) rest ≡ true)
        → has (cond b (follow part.id (leaf_at ids kids) (first_held kids ids)) (leaf_at ids rest c)) (con part kids floats rest) ≡ true
    step true e f g = f
    step false e f g = in_rest (leaf_at ids rest c) part kids floats rest (g (behind (same part.id c) (has c kids) (has c floats) (has c rest) e h))

leaf_node : (ids : List ConId) (part : Part) (kind : NodeKind) (kids floats rest : Forest) → has (follow part.id (leaf_at ids kids) (first_held (tiled_by kind kids) ids)) (con part kids floats rest) ≡ true
leaf_node ids part kind kids floats rest = by_kind kind
  where
    here : has part.id (con part kids floats rest) ≡ true
    here = rw (same_self part.id part.id refl) refl

    below : (o : Option ConId) → first_held kids ids ≡ o → has (follow part.id (leaf_at ids kids) o) (con part kids floats rest) ≡ true
    below None e = here
    below (Some i) e = in_kids (leaf_at ids kids i) part kids floats rest (leaf_at_has ids kids i (first_there kids ids i e))

    none : has (follow part.id (leaf_at ids kids) (first_held end ids)) (con part kids floats rest) ≡ true
    none =
        let At : Option ConId → Type 0 = λ o. has (follow part.id (leaf_at ids kids) o) (con part kids floats rest) ≡ true in
        subst At (sym (first_held_end ids)) here

    by_kind : (kind : NodeKind) → has (follow part.id (leaf_at ids kids) (first_held (tiled_by kind kids) ids)) (con part kids floats rest) ≡ true
    by_kind (Root c) = none
    by_kind (Output o) = none
    by_kind (Space w) = below (first_held kids ids) refl
    by_kind (Con c) = below (first_held kids ids) refl

leaf_has : (ids : List ConId) (found : Forest) (d : ConId) → leaf_of ids found ≡ Some d → has d found ≡ true
leaf_has ids end d h = cc
leaf_has ids (con part kids floats rest) d h =
    let e : follow part.id (leaf_at ids kids) (first_held (tiled_by part.kind kids) ids) ≡ d = cc in
    let There : ConId → Type 0 = λ z. has z (con part kids floats rest) ≡ true in
    subst There e (leaf_node ids part part.kind kids floats rest)

-- ---- what workspaces and containers are

space_takes : (o : Option Part) → kind_by space_kind o ≢ None → TakesFirst o × IsLow o
space_takes None ok = absurd (ok refl)
space_takes (Some part) ok = by_kind part.kind ok
  where
    by_kind : (kind : NodeKind) → space_kind kind ≢ None → TakesKids kind × LowKind kind
    by_kind (Root c) ok = absurd (ok refl)
    by_kind (Output o) ok = absurd (ok refl)
    by_kind (Space w) ok = (tt, tt)
    by_kind (Con c) ok = absurd (ok refl)

con_low : (o : Option Part) → kind_by con_kind o ≢ None → IsLow o
con_low None ok = absurd (ok refl)
con_low (Some part) ok = by_kind part.kind ok
  where
    by_kind : (kind : NodeKind) → con_kind kind ≢ None → LowKind kind
    by_kind (Root c) ok = absurd (ok refl)
    by_kind (Output o) ok = absurd (ok refl)
    by_kind (Space w) ok = absurd (ok refl)
    by_kind (Con c) ok = tt

same_one : (o : Option ConId) → same_space o o ≡ true
same_one None = refl
same_one (Some a) = same_self a a refl

together : (a b : ConId) (t : TreeValue) → workspace_of t a ≡ workspace_of t b → apart t a b ≡ false
together a b t e = rw e (ap not (same_one (workspace_of t b)))

two_spaces : (a b : Option ConId) → option_eq same a b ≡ false → same_space a b ≡ false
two_spaces None None h = absurd cc
two_spaces None (Some b) h = refl
two_spaces (Some a) None h = refl
two_spaces (Some a) (Some b) h = h

-- they are not in one workspace where those are not the same
pub far_by : (c w : ConId) (a b : Option ConId) (t : TreeValue) → a ≡ workspace_of t c → b ≡ workspace_of t w → false ≡ option_eq same a b → apart t c w ≡ true
far_by c w a b t ea eb h = rw (← ea, ← eb) (ap not (two_spaces a b (sym h)))

-- ---- the place

-- a place where the container may go
pub record Ready (c : ConId) (p : Place) (t : TreeValue) : Type 0 where
  pub there : has (named p) t.nodes ≡ true
  pub fits : IsPlace p t.nodes
  pub outside : has (named p) (only c t.nodes) ≡ false

pub ready : (c w : ConId) (t : TreeValue) → IsSound t → kind_of con_kind c t.nodes ≢ None → IsSpaceIn w t.nodes → apart t c w ≡ true → Ready c (sent_place c w t) t
ready c w t s ok_c ok_w far = by_tests (is_tiled_con t c) (is_tiled_con t (or_id (leaf t w) w)) refl
  where
    beyond : has w (only c t.nodes) ≡ false
    beyond = not_within c w t s ok_c ok_w

    low : TakesFirst (first_part (only w t.nodes)) × IsLow (first_part (only w t.nodes))
    low = space_takes (first_part (only w t.nodes)) ok_w

    leaf_out : (d : ConId) → leaf t w ≡ Some d → has d (only c t.nodes) ≡ false
    leaf_out d e = by_test (has d (only c t.nodes)) refl
      where
        by_test : (b : Bool) → has d (only c t.nodes) ≡ b → b ≡ false
        by_test false h = refl
        by_test true h =
            let one = below_space c d t s (con_low (first_part (only c t.nodes)) ok_c) h in
            let two = below_space w d t s low.1 (leaf_has t.recency (only w t.nodes) d e) in
            let near : apart t c w ≡ false = together c w t (sym one ∙ two) in
            cc

    outside : (o : Option ConId) → leaf t w ≡ o → has (or_id o w) (only c t.nodes) ≡ false
    outside None e = beyond
    outside (Some d) e = leaf_out d e

    by_tests : (a b : Bool) → is_tiled_con t (or_id (leaf t w) w) ≡ b
        → Ready c (cond (not a) (Float w (shifted (output_part_of c t) (output_part_of w t) (rect_of c t))) (cond b (After (or_id (leaf t w) w)) (Last w))) t
    by_tests false b e = record { there = space_there w t.nodes ok_w; fits = λ h. ok_w; outside = beyond }
    by_tests true true e = let k = after_fits t (or_id (leaf t w) w) e in record { there = k.0; fits = k.1; outside = outside (leaf t w) refl }
    by_tests true false e = record { there = space_there w t.nodes ok_w; fits = λ h. low.0; outside = beyond }

-- a place that is that one
pub ready_by : (c w : ConId) (p : Place) (t : TreeValue) → p ≡ sent_place c w t → IsSound t → kind_of con_kind c t.nodes ≢ None → is_space t w ≡ true → apart t c w ≡ true → Ready c p t
ready_by c w p t e s ok_c sp far = rw e (ready c w t s ok_c (space_is w t sp) far)

pub is_move : (c : ConId) (p : Place) (t : TreeValue) → kind_of con_kind c t.nodes ≢ None → Ready c p t → IsMove c p t.nodes
is_move c p t ok r = (λ h. ok, r.fits, λ h k. r.outside)

-- why it is refused
pub move_cause : (c : ConId) (p : Place) (t : TreeValue) (e : TreeRefusal) → kind_of con_kind c t.nodes ≢ None → Ready c p t → IsMoveCause t c p e → full_error (passed_by_move c p t.nodes) ≡ Some (refusal_by e)
move_cause c p t (refusals.Full limit) ok r h = ap full_error h.2
move_cause c p t (refusals.Missing i) ok r (inl h) = let here = con_there c t.nodes ok in absurd (cc (h.1, here))
move_cause c p t (refusals.Missing i) ok r (inr h) = let here = r.there in absurd (cc (h.2, here))
move_cause c p t refusals.NoMemory ok r h = absurd h

pub send_cause : (c w : ConId) (p : Place) (t : TreeValue) (e : TreeRefusal) → p ≡ sent_place c w t → apart t c w ≡ true → kind_of con_kind c t.nodes ≢ None → Ready c p t → IsMoveCause t c p e → sent_refusal c w t ≡ Some (refusal_by e)
send_cause c w p t e eq far ok r h =
    let Because : Place → Type 0 = λ q. full_error (passed_by_move c q t.nodes) ≡ Some (refusal_by e) in
    rw far (subst Because eq (move_cause c p t e ok r h))

-- the workspace that an output shows is one
pub shown_space : (o w : ConId) (t : TreeValue) → IsSound t → in_row o (first_kids t.nodes) ≡ true → shown_on o t ≡ Some w → is_space t w ≡ true
shown_space o w t s ok e = stands_space w t s (shown_stands_on o w t s ok e)
