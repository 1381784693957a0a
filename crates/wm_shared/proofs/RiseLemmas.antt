-- Showing and entering give no new ids.
use Rattle.std.proofs.Common.{◌≡◌, ℕ, Bool, true, false, cond, List, Option, None, Some, refl, ◌∙◌, arith}
use Rattle.wm_base.specs.declared.ids.ConId.{ConId}
use Rattle.wm_shared.specs.Outputs.{output_of}
use Rattle.wm_shared.specs.Showing.{current_some, entered, followed, focusing, output_focused, remembered, remembering, showing, showing_some, shown_on, shown_there, space_name, with_current}
use Rattle.wm_tree.proofs.IdLemmas.{ids_raised, ids_trans}
use Rattle.wm_tree.specs.Along.{gone_along}
use Rattle.wm_tree.specs.Ids.{IdsRise}
use Rattle.wm_forest.specs.Look.{same}
use Rattle.wm_tree.specs.Sets.{shown_by, with_shown}
use Rattle.wm_tree.specs.Words.{with_raised}
use Rattle.wm_tree.specs.TreeValue.{TreeValue, parent, shown, workspace_of}

-- the new tree has the ids of the old one
pub record SameIds (t new : TreeValue) : Type 0 where
  pub next : new.next_id ≡ t.next_id
  pub recency : new.recency ≡ t.recency

pub ids_same : (t new : TreeValue) → SameIds t new → IdsRise t new
ids_same t new s = record { next = omega (arith, s.next); known = λ v below. rw s.recency (omega arith) }

then_same : (a b c : TreeValue) → SameIds a b → SameIds b c → SameIds a c
then_same a b c p q = record { next = q.next ∙ p.next; recency = q.recency ∙ p.recency }

none : (t : TreeValue) → SameIds t t
none t = record { next = refl; recency = refl }

pub remembered_same : (was : ConId) (name : Option (List ℕ)) (t : TreeValue) → SameIds t (remembered was name t)
remembered_same was name t = step (same was (shown t)) where
  step : (b : Bool) → SameIds t (cond b t (record t { previous = name }))
  step true = none t
  step false = record { next = refl; recency = refl }

followed_same : (v : Option ConId) (w : ConId) (t : TreeValue) → SameIds t (followed v w t)
followed_same None w t = none t
followed_same (Some v) w t = step (same v w) where
  step : (b : Bool) → SameIds t (cond b t (gone_along v w t))
  step true = none t
  step false = record { next = refl; recency = refl }

shown_same : (w : ConId) (t : TreeValue) → SameIds t (with_shown w t)
shown_same w t = step (parent t w) where
  step : (o : Option ConId) → SameIds t (shown_by o w t)
  step None = none t
  step (Some o) = record { next = refl; recency = refl }

pub there_same : (w : ConId) (o : Option ConId) (t : TreeValue) → SameIds t (shown_there w o t)
there_same w None t = none t
there_same w (Some o) t =
    let t1 : TreeValue = with_current o t in
    then_same t (with_shown w t1) (shown_there w (Some o) t) (then_same t t1 (with_shown w t1) (record { next = refl; recency = refl }) (shown_same w t1)) (followed_same (shown_on o t) w (with_shown w t1))

pub showing_same : (w : ConId) (t : TreeValue) → SameIds t (showing w t)
showing_same w t = then_same t (shown_there w (parent t w) t) (showing w t) (there_same w (parent t w) t) (remembered_same (shown t) (space_name (shown t) t) (shown_there w (parent t w) t))

pub output_same : (o : ConId) (t : TreeValue) → SameIds t (output_focused o t)
output_same o t = then_same t (with_current o t) (output_focused o t) (record { next = refl; recency = refl }) (remembered_same (shown t) (space_name (shown t) t) (with_current o t))

entered_same : (c : ConId) (t : TreeValue) → SameIds t (entered c t)
entered_same c t = step (output_of c t) where
  step : (o : Option ConId) → SameIds t (current_some o t)
  step None = none t
  step (Some o) = record { next = refl; recency = refl }

-- one that comes to another output, which is entered
pub over_same : (c : ConId) (t moved : TreeValue) → SameIds t moved → SameIds t (remembering t (entered c moved))
over_same c t moved s =
    then_same t (entered c moved) (remembering t (entered c moved)) (then_same t moved (entered c moved) s (entered_same c moved)) (remembered_same (shown t) (space_name (shown t) t) (entered c moved))

pub ids_focusing : (c : ConId) (t : TreeValue) → IdsRise t (focusing c t)
ids_focusing c t = step (workspace_of t c) where
  step : (o : Option ConId) → IdsRise t (with_raised c (showing_some o t))
  step None = ids_raised c t
  step (Some w) = ids_trans t (showing w t) (with_raised c (showing w t)) (ids_same t (showing w t) (showing_same w t)) (ids_raised c (showing w t))
