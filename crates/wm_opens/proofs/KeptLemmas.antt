-- Trees that count no more than others by any measure, word by word.
use Rattle.std.proofs.Common.{◌≡◌, ℕ, ◌≤◌, Bool, true, false, List, Some, refl, arith}
use Rattle.wm_base.specs.declared.ids.ConId.{ConId}
use Rattle.wm_base.specs.declared.plan.Layout.{Layout}
use Rattle.wm_base.specs.declared.plan.OutputPlan.{OutputPlan}
use Rattle.wm_focus.specs.Marks.{freed, given_mark, kept_marks, with_mark}
use Rattle.wm_forest.specs.Change.{is_window_kind}
use Rattle.wm_opens.proofs.MeasureLemmas.{Fewer, IsMeasure, fewer_same, fewer_trans}
use Rattle.wm_opens.proofs.WordLemmas.{count-taken_off, fewer_along, fewer_attached, fewer_detached, fewer_edited, fewer_exchanged, fewer_moved, fewer_raised, fewer_settled, fewer_space_moved, fewer_unmarked, fewer_with_marks, fewer_with_output, fewer_with_space, fewer_without_output, fewer_wrapped}
use Rattle.wm_opens.specs.Opens.{is_fill}
use Rattle.wm_tree.specs.Along.{gone_along}
use Rattle.wm_forest.specs.Counts.{count}
use Rattle.wm_forest.specs.declared.kind.KindEdit.{KindEdit}
use Rattle.wm_forest.specs.declared.part.Part.{Part}
use Rattle.wm_forest.specs.declared.place.NewCon.{NewCon}
use Rattle.wm_forest.specs.declared.place.Place.{Place}
use Rattle.wm_forest.specs.Look.{has}
use Rattle.wm_forest.specs.Place.{new_kind}
use Rattle.wm_tree.specs.Move.{exchanged, marks_in, moved, unmarked, with_marks, wrapped}
use Rattle.wm_tree.specs.Outputs.{space_moved, with_output, with_space, without_output}
use Rattle.wm_tree.specs.TreeValue.{TreeValue}
use Rattle.wm_tree.specs.Words.{attached, detached, edited, settled, with_raised}

-- the new tree counts no more than the old one by each measure
pub record Kept (t new : TreeValue) : Type 0 where
  pub next : t.next_id ≤ new.next_id
  pub fewer : (m : Part → ℕ) → IsMeasure m → Fewer m t new

pub kept_refl : (t : TreeValue) → Kept t t
kept_refl t = record { next = omega arith; fewer = λ m k. fewer_same m t t refl (omega arith) }

pub kept_trans : (a b c : TreeValue) → Kept a b → Kept b c → Kept a c
kept_trans a b c p q = record { next = omega (arith, p.next, q.next); fewer = λ m k. fewer_trans m a b c (p.fewer m k) (q.fewer m k) }

-- a tree with the nodes and the next id of another one
pub record SameNodes (t new : TreeValue) : Type 0 where
  pub next : new.next_id ≡ t.next_id
  pub nodes : new.nodes ≡ t.nodes

pub kept_nodes : (t new : TreeValue) → SameNodes t new → Kept t new
kept_nodes t new s = record { next = omega (arith, s.next); fewer = λ m k. fewer_same m t new s.next (rw s.nodes (omega arith)) }

-- a tree with the next id of another one, and nodes of which each measure counts no more
pub kept_count : (t new : TreeValue) → new.next_id ≡ t.next_id → ((m : Part → ℕ) → IsMeasure m → count m new.nodes ≤ count m t.nodes) → Kept t new
kept_count t new e h = record { next = omega (arith, e); fewer = λ m k. fewer_same m t new e (h m k) }

pub kept_edited : (c : ConId) (edit : KindEdit) (t : TreeValue) → is_fill edit ≡ false → Kept t (edited c edit t)
kept_edited c edit t h = record { next = omega arith; fewer = λ m k. fewer_edited m k c edit t h }

pub kept_raised : (c : ConId) (t : TreeValue) → Kept t (with_raised c t)
kept_raised c t = record { next = omega arith; fewer = λ m k. fewer_raised m k c t }

pub kept_with_marks : (c : ConId) (marks : List (List ℕ)) (t : TreeValue) → Kept t (with_marks c marks t)
kept_with_marks c marks t = record { next = omega arith; fewer = λ m k. fewer_with_marks m k c marks t }

pub kept_unmarked : (c : ConId) (n : List ℕ) (t : TreeValue) → Kept t (unmarked c n t)
kept_unmarked c n t = record { next = omega arith; fewer = λ m k. fewer_unmarked m k c n t }

pub kept_settled : (t : TreeValue) → Kept t (settled t)
kept_settled t = record { next = omega arith; fewer = λ m k. fewer_settled m k t }

pub kept_detached : (c : ConId) (t : TreeValue) → Kept t (detached c t)
kept_detached c t = record { next = omega arith; fewer = λ m k. fewer_detached m k c t }

pub kept_moved : (c : ConId) (p : Place) (t : TreeValue) → Kept t (moved c p t)
kept_moved c p t = record { next = omega arith; fewer = λ m k. fewer_moved m k c p t }

pub kept_space_moved : (w o : ConId) (t : TreeValue) → Kept t (space_moved w o t)
kept_space_moved w o t = record { next = omega arith; fewer = λ m k. fewer_space_moved m k w o t }

pub kept_exchanged : (a b : ConId) (t : TreeValue) → has a t.nodes ≡ true → Kept t (exchanged a b t)
kept_exchanged a b t h = record { next = omega arith; fewer = λ m k. fewer_exchanged m k a b t h }

pub kept_along : (v w : ConId) (t : TreeValue) → Kept t (gone_along v w t)
kept_along v w t = record { next = omega arith; fewer = λ m k. fewer_along m k v w t }

pub kept_wrapped : (c : ConId) (layout : Layout) (t : TreeValue) → Kept t (wrapped c layout t)
kept_wrapped c layout t = record { next = omega arith; fewer = λ m k. fewer_wrapped m k c layout t }

pub kept_with_space : (o : ConId) (name : List ℕ) (t : TreeValue) → Kept t (with_space o name t)
kept_with_space o name t = record { next = omega arith; fewer = λ m k. fewer_with_space m k o name t }

pub kept_with_output : (plan : OutputPlan) (first : List ℕ) (t : TreeValue) → Kept t (with_output plan first t)
kept_with_output plan first t = record { next = omega arith; fewer = λ m k. fewer_with_output m k plan first t }

pub kept_without_output : (o : ConId) (t : TreeValue) → Kept t (without_output o t)
kept_without_output o t = record { next = next_of t (fewer_without_output zeros zeros_measured o t); fewer = λ m k. fewer_without_output m k o t }
  where
    zeros : Part → ℕ
    zeros p = 0

    zeros_measured : IsMeasure zeros
    zeros_measured = record { unfulled = λ p. refl; put = λ share rect p. refl; remarked = λ marks p. refl; edited = λ edit p h. refl; hole = refl }

    next_of : (old : TreeValue) → Fewer zeros old (without_output o t) → old.next_id ≤ (without_output o t).next_id
    next_of old f = f.next

-- ---- marks that are given

pub kept_freed : (c : ConId) (n : List ℕ) (t : TreeValue) → Kept t (freed c n t)
kept_freed c n t = kept_count t (freed c n t) refl (λ m k. omega (arith, count-taken_off m k (Some c) n t.nodes))

pub kept_given : (c : ConId) (n : List ℕ) (add : Bool) (t : TreeValue) → Kept t (given_mark c n add t)
kept_given c n add t =
    let marks : List (List ℕ) = with_mark n (kept_marks n add (marks_in c t.nodes)) in
    kept_trans t (with_marks c marks t) (given_mark c n add t) (kept_with_marks c marks t) (kept_freed c n (with_marks c marks t))

-- ---- containers that come

pub kept_attached : (p : Place) (newcomer : NewCon) (t : TreeValue) → is_window_kind (new_kind newcomer) ≡ false → Kept t (attached p newcomer t)
kept_attached p newcomer t none = record { next = omega arith; fewer = λ m k. fewer_attached m k p newcomer t none }
