-- Where a container may go in a direction.
use Rattle.std.proofs.Common.{◌≡◌, ◌≢◌, Bool, true, false, cond, ◌⊎◌, inl, inr, Option, None, Some, refl, ap, sym, ◌∙◌}
use Rattle.std.specs.Prelude.{option_and_then}
use Rattle.wm_base.specs.declared.geometry.Dir.{Dir}
use Rattle.wm_base.specs.declared.ids.ConId.{ConId}
use Rattle.wm_focus.proofs.BesideLemmas.{apart_below, below_two}
use Rattle.wm_shared.proofs.NeighbourLemmas.{turned}
use Rattle.wm_shared.proofs.DownLemmas.{below_both, held_below, not_above, once_only}
use Rattle.wm_shared.proofs.KidLemmas.{IsKid, child_there, holder_in_row, kid_of, kid_there, kid_tiled}
use Rattle.wm_focus.proofs.AboveLemmas.{IsAbove, out_above}
use Rattle.wm_focus.proofs.SubjectLemmas.{tiled_is}
use Rattle.wm_focus.proofs.SwapLemmas.{tiled_there}
use Rattle.wm_focus.specs.declared.rungs.Aim.TheVariants.{Out}
use Rattle.wm_focus.specs.Moves.{IsGoal, IsTurn, after_child, beside, entry, held_out, is_split_con, is_split_part, near_end, neighbour_below, runs_split, side_of, space_over}
use Rattle.wm_focus.specs.Rungs.{nearest}
use Rattle.wm_shared.specs.Neighbours.{is_forward}
use Rattle.wm_shared.proofs.SpaceLemmas.{not_within, shown_is_space}
use Rattle.wm_shared.specs.Outputs.{output_from}
use Rattle.wm_shared.specs.Showing.{shown_on}
use Rattle.wm_tree.proofs.AlongLemmas.{space_there}
use Rattle.wm_forest.proofs.CountLemmas.{found_counted, there}
use Rattle.wm_forest.proofs.RecencyLemmas.{same_is}
use Rattle.wm_forest.specs.Change.{is_split}
use Rattle.wm_forest.specs.declared.part.ConKind.{ConKind}
use Rattle.wm_forest.specs.declared.part.ConKind.TheVariants.{Split, Window, Placeholder}
use Rattle.wm_forest.specs.declared.part.NodeKind.{NodeKind}
use Rattle.wm_forest.specs.declared.part.NodeKind.TheVariants.{Root, Output, Space, Con}
use Rattle.wm_forest.specs.declared.part.Part.{Part}
use Rattle.wm_forest.specs.declared.place.Place.TheVariants.{After, Before, First, Last}
use Rattle.wm_forest.specs.Forest.{Forest}
use Rattle.wm_forest.specs.Look.{con_kind, first_part, has, kind_by, only, same, space_kind}
use Rattle.wm_forest.specs.Place.{IsSplit, TakesFirst, TakesKids}
use Rattle.wm_forest.specs.Recency.{first_held}
use Rattle.wm_tree.specs.Sound.{IsSound}
use Rattle.wm_forest.specs.SoundRow.{roots}
use Rattle.wm_forest.specs.Spot.{top}
use Rattle.wm_tree.specs.TreeValue.{TreeValue, focused_child, is_tiled_con, parent}
use Rattle.wm_forest.specs.Focus.{row_holder, tiled_kids}

-- ---- what options say

pub chained : {A B : Type 0} (f : A → Option B) (o : Option A) (y : B) → option_and_then f o ≡ Some y → (x : A) × (o ≡ Some x) × (f x ≡ Some y)
chained f None y h = cc
chained f (Some x) y h = (x, refl, h)

-- ---- a neighbour

-- what is known of a neighbour
record Next (c n : ConId) (t : TreeValue) : Type 0 where
  next_kid : IsKid false n t.nodes
  next_there : has n t.nodes ≡ true
  next_apart : (x : ConId) → has x (only n t.nodes) ≡ true → has x (only c t.nodes) ≡ false
  own_apart : (x : ConId) → has x (only c t.nodes) ≡ true → has x (only n t.nodes) ≡ false

found_self : (c : ConId) (f : Forest) → has c f ≡ true → has c (only c f) ≡ true
found_self c f h = there c (only c f) (found_counted c f h)

next_is : (d : Dir) (c n : ConId) (t : TreeValue) → IsSound t → beside d c t ≡ Some n → Next c n t
next_is d c n t s h =
    let k = chained (λ (q : ConId). neighbour_below d c (only q t.nodes)) (parent t c) n h in
    let p = k.0 in
    let two = below_two d c n (only p t.nodes) (once_only p t.nodes s.once) k.2 in
    let kid = kid_of p n roots false 0 t.nodes s.shaped s.once two.second in
    record {
      next_kid = kid;
      next_there = kid_there false n t.nodes kid;
      next_apart = λ x e. apart_below p c n x t.nodes s.once two e;
      own_apart = λ x e. apart_below p n c x t.nodes s.once (turned two) e;
    }

-- two neighbours may change places
pub turn_fits : (d : Dir) (c n : ConId) (t : TreeValue) → IsSound t → is_tiled_con t c ≡ true → beside d c t ≡ Some n → IsTurn c n t
turn_fits d c n t s own h =
    let k = next_is d c n t s h in
    let here = tiled_there t c own in (
      here,
      k.next_there,
      (
        (λ e. tiled_is t c own),
        (λ e. kid_tiled n t.nodes k.next_kid),
        k.next_apart n (found_self n t.nodes k.next_there),
        k.own_apart c (found_self c t.nodes here),
      ),
    )

-- ---- a split beside it

takes_split : (part : Option Part) → is_split_part (kind_by con_kind part) ≡ true → TakesFirst part
takes_split None h = cc
takes_split (Some part) h = by part.kind h where
  by_con : (kind : ConKind) → is_split kind ≡ true → IsSplit kind
  by_con (Split layout last) h = tt
  by_con (Window props owner natural) h = cc
  by_con (Placeholder props swallows) h = cc

  by : (kind : NodeKind) → is_split_part (con_kind kind) ≡ true → TakesKids kind
  by (Root c) h = cc
  by (Output o) h = cc
  by (Space s) h = cc
  by (Con c) h = by_con c.kind h

pub entry_fits : (d : Dir) (c n : ConId) (t : TreeValue) → IsSound t → is_tiled_con t c ≡ true → beside d c t ≡ Some n → is_split_con t n ≡ true → IsGoal c (entry d n t) t
entry_fits d c n t s own h split = step (runs_split d n t) where
  k : Next c n t
  k = next_is d c n t s h

  apart : has n (only c t.nodes) ≡ false
  apart = k.next_apart n (found_self n t.nodes k.next_there)

  first : IsGoal c (First n) t
  first = (tiled_there t c own, k.next_there, ((λ e. (tiled_is t c own).0), (λ e. takes_split (first_part (only n t.nodes)) split), λ e g. apart))

  last : IsGoal c (Last n) t
  last = (tiled_there t c own, k.next_there, ((λ e. (tiled_is t c own).0), (λ e. takes_split (first_part (only n t.nodes)) split), λ e g. apart))

  near : (b : Bool) → IsGoal c (cond b (First n) (Last n)) t
  near true = first
  near false = last

  behind : (o : Option ConId) → focused_child t n ≡ o → IsGoal c (after_child n o) t
  behind None e = first
  behind (Some x) e =
      let held = chained (λ (y : ConId). row_holder y (tiled_kids (only n t.nodes))) (first_held (tiled_kids (only n t.nodes)) t.recency) x e in
      let stands = holder_in_row held.0 x (tiled_kids (only n t.nodes)) held.2 in
      let kid = kid_of n x roots false 0 t.nodes s.shaped s.once stands in (
        tiled_there t c own,
        kid_there false x t.nodes kid,
        ((λ g. (tiled_is t c own).0), (λ g. kid_tiled x t.nodes kid), λ g l. k.next_apart x (child_there x (only n t.nodes) stands)),
      )

  step : (b : Bool) → IsGoal c (cond b (near_end d n) (after_child n (focused_child t n))) t
  step true = near (is_forward d)
  step false = behind (focused_child t n) refl

-- ---- out of the parent

pub side_fits : (d : Dir) (c x : ConId) (t : TreeValue) → IsSound t → is_tiled_con t c ≡ true → held_out d c t ≡ Some x → IsGoal c (side_of d x) t
side_fits d c x t s own h = step (is_forward d) where
  k : (p : ConId) × (parent t c ≡ Some p) × (nearest Out d p t.nodes ≡ Some x)
  k = chained (λ (p : ConId). nearest Out d p t.nodes) (parent t c) x h

  p : ConId
  p = k.0

  above : IsAbove false p x t.nodes
  above = out_above d p x roots false 0 t.nodes s.shaped s.once k.2

  by : ((top.holder ≡ Some p) ⊎ ((has c (only p t.nodes) ≡ true) × (same p c ≡ false))) → has x (only c t.nodes) ≡ false
  by (inl e) = cc
  by (inr e) = two (same x c) refl where
    two : (b : Bool) → same x c ≡ b → has x (only c t.nodes) ≡ false
    two false g = not_above c x t.nodes s.once (below_both c p x t.nodes s.once above.1 e.0) g
    two true g =
        let no = not_above c p t.nodes s.once e.0 e.1 in
        let yes : has p (only c t.nodes) ≡ true = ap (λ z. has p (only z t.nodes)) (sym (same_is x c g)) ∙ above.1 in
        absurd (cc)

  apart : has x (only c t.nodes) ≡ false
  apart = by (held_below top c p t.nodes s.once k.1)

  step : (b : Bool) → IsGoal c (cond b (After x) (Before x)) t
  step true = (tiled_there t c own, kid_there false x t.nodes above.0, ((λ g. (tiled_is t c own).0), (λ g. kid_tiled x t.nodes above.0), λ g l. apart))
  step false = (tiled_there t c own, kid_there false x t.nodes above.0, ((λ g. (tiled_is t c own).0), (λ g. kid_tiled x t.nodes above.0), λ g l. apart))

-- ---- over the edge of the output

takes_space : (part : Option Part) → kind_by space_kind part ≢ None → TakesFirst part
takes_space None h = absurd (h refl)
takes_space (Some part) h = by part.kind h where
  by : (kind : NodeKind) → space_kind kind ≢ None → TakesKids kind
  by (Root c) h = absurd (h refl)
  by (Output o) h = absurd (h refl)
  by (Space w) h = tt
  by (Con c) h = absurd (h refl)

pub cross_fits : (d : Dir) (c w : ConId) (t : TreeValue) → IsSound t → is_tiled_con t c ≡ true → space_over d c t ≡ Some w → IsGoal c (near_end d w) t
cross_fits d c w t s own h = step (is_forward d) where
  k : (o : ConId) × (output_from d c t ≡ Some o) × (shown_on o t ≡ Some w)
  k = chained (λ (o : ConId). shown_on o t) (output_from d c t) w h

  ok : kind_by space_kind (first_part (only w t.nodes)) ≢ None
  ok = shown_is_space k.0 w t s k.2

  here : has w t.nodes ≡ true
  here = space_there w t.nodes ok

  outside : has w (only c t.nodes) ≡ false
  outside = not_within c w t s (tiled_is t c own).0 ok

  step : (b : Bool) → IsGoal c (cond b (First w) (Last w)) t
  step true = (tiled_there t c own, here, ((λ e. (tiled_is t c own).0), (λ e. takes_space (first_part (only w t.nodes)) ok), λ e g. outside))
  step false = (tiled_there t c own, here, ((λ e. (tiled_is t c own).0), (λ e. takes_space (first_part (only w t.nodes)) ok), λ e g. outside))
