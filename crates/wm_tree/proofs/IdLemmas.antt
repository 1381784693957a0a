-- The words let ids rise, and none that is gone comes back.
use Rattle.std.proofs.Common.{◌≡◌, ℕ, ◌+◌, ◌≤◌, ◌<◌, Bool, true, false, cond, not, List, [], ◌∷◌, ◌++◌, filter, ltb, Option, None, Some, refl, ap, arith}
use Rattle.std.proofs.lemmas.Bool.Decides.{nat_tests}
use Rattle.wm_base.specs.declared.ids.ConId.{ConId}
use Rattle.wm_base.specs.declared.plan.Layout.{Layout}
use Rattle.wm_base.specs.declared.plan.OutputPlan.{OutputPlan}
use Rattle.wm_forest.specs.declared.kind.KindEdit.{KindEdit}
use Rattle.wm_forest.specs.declared.kind.KindEdit.TheVariants as edits
use Rattle.wm_forest.specs.declared.place.NewCon.{NewCon}
use Rattle.wm_forest.specs.declared.place.Place.{Place}
use Rattle.wm_tree.specs.Ids.{IdsRise}
use Rattle.wm_forest.specs.Look.{has, only, same}
use Rattle.wm_tree.specs.Move.{moved, wrapped}
use Rattle.wm_tree.specs.Outputs.{handed_on, left_to, space_moved, with_output, with_space, without_output, yielded}
use Rattle.wm_forest.specs.Taking.{heir}
use Rattle.wm_forest.specs.Settle.{vacated}
use Rattle.wm_tree.specs.Sound.{IsSound}
use Rattle.wm_forest.specs.SoundRow.{times}
use Rattle.wm_tree.specs.TreeValue.{TreeValue, current}
use Rattle.wm_forest.specs.RootId.{id, root}
use Rattle.wm_tree.specs.Words.{attached, detached, edited, settled, with_raised}
use Rattle.wm_forest.proofs.CountLemmas.{counted, found_counted, there}
use Rattle.wm_forest.proofs.TimesLemmas.{times-append, times-dropped, times-raised}

pub ids_refl : (t : TreeValue) → IdsRise t t
ids_refl t = record { next = omega arith; known = λ v below. omega arith }

pub ids_trans : (a b c : TreeValue) → IdsRise a b → IdsRise b c → IdsRise a c
ids_trans a b c p q = record { next = omega (arith, p.next, q.next); known = λ v below. omega (arith, p.known v below, q.known v (omega (arith, below, p.next))) }

-- ---- the words

filtered : (p : ConId → Bool) (v : ConId) (ids : List ConId) → times v (filter p ids) ≤ times v ids
filtered p v [] = omega arith
filtered p v (i ∷ ids) = step (p i) (filtered p v ids)
  where
    step : (b : Bool) → times v (filter p ids) ≤ times v ids → times v (cond b (i ∷ filter p ids) (filter p ids)) ≤ times v (i ∷ ids)
    step true h = omega (arith, h)
    step false h = omega (arith, h)

pub ids_raised : (c : ConId) (t : TreeValue) → IdsRise t (with_raised c t)
ids_raised c t = record { next = omega arith; known = λ v below. omega (arith, times-raised v c t.recency) }

pub ids_settled : (t : TreeValue) → IdsRise t (settled t)
ids_settled t = record { next = omega arith; known = λ v below. filtered _ v t.recency }

-- an id above another is not the same
above : (n : ℕ) (v : ConId) → v.0 < n → same (id n) v ≡ false
above n v below = grind (arith, nat_tests)

grown : (n : ℕ) (v : ConId) (t : TreeValue) → v.0 < n → times v (t.recency ++ id n ∷ []) ≤ times v t.recency
grown n v t below = let new : times v (id n ∷ []) ≡ 0 = rw (above n v below) refl in omega (arith, times-append v t.recency (id n ∷ []), new)

pub ids_wrapped : (c : ConId) (layout : Layout) (t : TreeValue) → IdsRise t (wrapped c layout t)
ids_wrapped c layout t = record { next = omega arith; known = λ v below. grown t.next_id v t below }

pub ids_attached : (p : Place) (newcomer : NewCon) (t : TreeValue) → IdsRise t (attached p newcomer t)
ids_attached p newcomer t = record { next = omega arith; known = λ v below. grown t.next_id v t below }

pub ids_edited : (c : ConId) (edit : KindEdit) (t : TreeValue) → IdsRise t (edited c edit t)
ids_edited c edit t = record { next = omega arith; known = λ v below. omega arith }

pub ids_moved : (c : ConId) (p : Place) (t : TreeValue) → IdsRise t (moved c p t)
ids_moved c p t = record { next = omega arith; known = λ v below. omega arith }

pub ids_with_output : (plan : OutputPlan) (first : List ℕ) (t : TreeValue) → IdsRise t (with_output plan first t)
ids_with_output plan first t = record { next = omega arith; known = λ v below. grown (t.next_id + 1) v t (omega (arith, below)) }

pub ids_with_space : (o : ConId) (name : List ℕ) (t : TreeValue) → IdsRise t (with_space o name t)
ids_with_space o name t = record { next = omega arith; known = λ v below. grown t.next_id v t below }

pub ids_space_moved : (w o : ConId) (t : TreeValue) → IdsRise t (space_moved w o t)
ids_space_moved w o t = record { next = omega arith; known = λ v below. omega arith }

ids_handed : (o h : ConId) (t : TreeValue) → IdsRise t (handed_on o h (yielded o h t))
ids_handed o h t = by_test (same (current t) o)
  where
    by_test : (b : Bool) → IdsRise t (handed_on o h (cond b (edited root (edits.Current h) t) t))
    by_test true = record { next = omega arith; known = λ v below. omega arith }
    by_test false = record { next = omega arith; known = λ v below. omega arith }

pub ids_without_output : (o : ConId) (t : TreeValue) → IdsRise t (without_output o t)
ids_without_output o t = by_heir (heir o t.nodes)
  where
    by_heir : (h : Option ConId) → IdsRise t (left_to h o t)
    by_heir None = ids_refl t
    by_heir (Some h) = ids_handed o h t

pub ids_detached : (c : ConId) (t : TreeValue) → IdsRise t (detached c t)
ids_detached c t = record { next = omega arith; known = λ v below. filtered _ v t.recency }

-- what is there has an id that was given
pub given_id : (c : ConId) (t : TreeValue) → IsSound t → has c t.nodes ≡ true → c.0 < t.next_id
given_id c t s h = by_test (ltb c.0 t.next_id) refl
  where
    by_test : (b : Bool) → ltb c.0 t.next_id ≡ b → c.0 < t.next_id
    by_test true e = grind (arith, nat_tests)
    by_test false e = let late : t.next_id ≤ c.0 = grind (arith, nat_tests) in absurd (omega (arith, s.fresh c late, counted c t.nodes h))

-- what was taken out is not known any more
pub gone_after : (c : ConId) (t : TreeValue) → has c t.nodes ≡ true → times c (settled (detached c t)).recency ≡ 0
gone_after c t h =
    let found : has c (only c t.nodes) ≡ true = there c (only c t.nodes) (found_counted c t.nodes h) in
    omega (arith, times-dropped (λ i. not (has i (only c t.nodes))) c t.recency (ap not found), filtered (λ i. not (has i (vacated None (detached c t).nodes))) c (detached c t).recency)
