-- Appending a layout to a workspace of a sound tree, where it passes no limit, is free of refusals.
use Rattle.std.proofs.Common.{◌≡◌, ◌≢◌, ℕ, ◌+◌, ◌≤◌, ◌<◌, Bool, true, false, cond, leb, ltb, ◌||◌, not, List, [], ◌∷◌, ◌++◌, Option, Some, None, refl, sym, ◌∙◌, ap, subst, arith}
use Rattle.std.specs.Prelude.{is_some}
use Rattle.std.specs.Option.{option_or}
use Rattle.std.proofs.lemmas.Bool.Decides.{nat_tests}
use Rattle.wm_base.specs.declared.errors.Limit.TheVariants.{Containers, Children, Depth, Marks, Ids}
use Rattle.wm_base.specs.declared.ids.ConId.{ConId}
use Rattle.wm_forest.specs.Counts.{con_count, mark_count, row_length}
use Rattle.wm_forest.specs.Look.{first_kids, has, kind_of, only, same, space_kind}
use Rattle.wm_forest.specs.Spot.{top}
use Rattle.wm_forest.proofs.CountLemmas.{counted}
use Rattle.wm_forest.proofs.RecencyLemmas.{same_is}
use Rattle.wm_saved.specs.declared.saved.SavedKind.{SavedKind, Split', Placeholder, Row_of-SavedNode, end_of-SavedNode, more_of-SavedNode}
use Rattle.wm_saved.specs.declared.saved.SavedNode.{SavedNode}
use Rattle.wm_swallow.specs.Limits.{HasFitMarks, IsSpaceThere, different, is_held, is_overmarked, passed_by_append}
use Rattle.wm_swallow.specs.SavedRows.{Saved, all_marks, fits, is_wide, newcomer, row_below, row_of, row_size, rows, size}
use Rattle.wm_swallow.specs.Appending.{appended}
use Rattle.wm_swallow.specs.Laws.{AppendingAdds, IsMore}
use Rattle.wm_swallow.specs.Steps.{IsFree}
use Rattle.wm_swallow.proofs.CourseLemmas.{Course, course}
use Rattle.wm_swallow.proofs.FreeLemmas.{AreSplits, free, is_none}
use Rattle.wm_swallow.proofs.GiveLemmas.{HasRoom}
use Rattle.wm_swallow.proofs.HeldLemmas.{absent}
use Rattle.wm_swallow.proofs.StandLemmas.{Seen, Standing, is_seen, seen, standing}
use Rattle.wm_swallow.proofs.StepLemmas.{Fresh}
use Rattle.wm_tree.specs.Sound.{IsSound}
use Rattle.wm_tree.specs.TreeValue.{TreeValue}
use Rattle.wm_forest.specs.Change.{is_split}
use Rattle.wm_forest.specs.Place.{new_kind}

-- ---- layouts

mutual
  below_splits : (kind : SavedKind) → (is_none (row_below kind) ≡ false → is_split (new_kind (newcomer kind)) ≡ true) × AreSplits (row_below kind)
  below_splits (Split' layout _ nodes) = (λ h. refl, of_splits nodes)
  below_splits (Placeholder name swallows) = (λ h. cc, tt)

  of_splits : {n : _} (nodes : Row_of-SavedNode n) → AreSplits (row_of nodes)
  of_splits end_of-SavedNode = tt
  of_splits (more_of-SavedNode border marks kind rest) = let b = below_splits kind in (b.0, b.1, of_splits rest)

pub are_splits : (nodes : List SavedNode) → AreSplits (rows nodes)
are_splits [] = tt
are_splits (n ∷ ns) = let b = below_splits n.kind in (b.0, b.1, are_splits ns)

-- ---- limits

-- what passes no limit is within all
record Within (w : ConId) (row : Saved) (t : TreeValue) : Type 0 where
  pub cons : con_count t.nodes + size row ≤ 4096
  pub kids : row_length (first_kids (only w t.nodes)) + row_size row ≤ 256
  pub narrow : is_wide row ≡ false
  pub deep : fits 32 row ≡ true
  pub few : is_overmarked row ≡ false
  pub marks : mark_count t.nodes + different (is_held t.nodes) (all_marks row) ≤ 1024
  pub ids : t.next_id + size row ≤ 4000000001

at_most : (n m : ℕ) → ltb n m ≡ false → m ≤ n
at_most n m h = grind (arith, nat_tests)

within_step : (w : ConId) (row : Saved) (t : TreeValue) (a b c d e f g : Bool) → ltb 4096 (con_count t.nodes + size row) ≡ a → ltb 256 (row_length (first_kids (only w t.nodes)) + row_size row) ≡ b → is_wide row ≡ c → fits 32 row ≡ d
    → is_overmarked row ≡ e → ltb 1024 (mark_count t.nodes + different (is_held t.nodes) (all_marks row)) ≡ f → ltb 4000000001 (t.next_id + size row) ≡ g
    → option_or (cond a (Some Containers) (cond (b || c) (Some Children) (cond (not d) (Some Depth) None))) (cond (e || f) (Some Marks) (cond g (Some Ids) None)) ≡ None → Within w row t
within_step w row t true b c d e f g p q r s u v x h = cc
within_step w row t false true c d e f g p q r s u v x h = cc
within_step w row t false false true d e f g p q r s u v x h = cc
within_step w row t false false false false e f g p q r s u v x h = cc
within_step w row t false false false true true f g p q r s u v x h = cc
within_step w row t false false false true false true g p q r s u v x h = cc
within_step w row t false false false true false false true p q r s u v x h = cc
within_step w row t false false false true false false false p q r s u v x h = record {
  cons = at_most 4096 _ p;
  kids = at_most 256 _ q;
  narrow = r;
  deep = s;
  few = u;
  marks = at_most 1024 _ v;
  ids = at_most 4000000001 _ x;
}

within : (w : ConId) (row : Saved) (t : TreeValue) → passed_by_append w row t ≡ None → Within w row t
within w row t h = within_step w row t _ _ _ _ _ _ _ refl refl refl refl refl refl refl h

-- ---- the tree

fresh_sound : (t : TreeValue) → IsSound t → Fresh t
fresh_sound t s v above = absent v t.nodes (s.fresh v above)

low_sound : (w : ConId) (t : TreeValue) → IsSound t → has w t.nodes ≡ true → w.0 < t.next_id
low_sound w t s there = by (leb t.next_id w.0) refl
  where
    by : (b : Bool) → leb t.next_id w.0 ≡ b → w.0 < t.next_id
    by true e = let above : t.next_id ≤ w.0 = grind (arith, nat_tests) in absurd (omega (arith, s.fresh w above, counted w t.nodes there))
    by false e = grind (arith, nat_tests)

some_space : {A : Type 0} (o : Option A) → o ≢ None → is_some o ≡ true
some_space None h = absurd (h refl)
some_space (Some x) h = refl

append_none : (ms : List (List ℕ)) → ms ++ [] ≡ ms
append_none [] = refl
append_none (m ∷ ms) = ap (λ z. m ∷ z) (append_none ms)

pub whole : (w : ConId) (nodes : List SavedNode) (t : TreeValue) → IsSound t → has w t.nodes ≡ true → IsSpaceThere w t.nodes → HasFitMarks (rows nodes) → passed_by_append w (rows nodes) t ≡ None → IsFree w (rows nodes) t
whole w nodes t s there space fit passed = by (standing 0 w t.nodes) refl (is_seen 0 w t.nodes there)
  where
    by : (o : Option Standing) → standing 0 w t.nodes ≡ o → is_some o ≡ true → IsFree w (rows nodes) t
    by None e h = cc
    by (Some x) e h =
        let g : Within w (rows nodes) t = within w (rows nodes) t passed in
        let k : Seen top w t.nodes x = seen top w t.nodes x e in
        let is = k.is_space (some_space (kind_of space_kind w t.nodes) (space there)) in
        free w (rows nodes) t x (low_sound w t s there) (fresh_sound t s) e
        (record {
          splits = are_splits nodes;
          takes = λ _. is.0;
          cons = g.cons;
          kids = omega (arith, g.kids, k.kids);
          narrow = g.narrow;
          deep = rw is.1 g.deep;
          ids = g.ids;
          few = g.few;
          fit = fit;
        })
        [] (subst (HasRoom t.nodes) (sym (append_none (all_marks (rows nodes)))) g.marks)

-- ---- what was added

-- a node that was there is there still
still : (w c : ConId) (row : Saved) (t : TreeValue) (x : Standing) → IsSound t → has c t.nodes ≡ true → Course w row t x (appended w row t) → has w (appended w row t).nodes ≡ true → has c (appended w row t).nodes ≡ true
still w c row t x s here k own = by (same w c) refl (standing 0 c t.nodes) refl (is_seen 0 c t.nodes here)
  where
    by : (b : Bool) → same w c ≡ b → (o : Option Standing) → standing 0 c t.nodes ≡ o → is_some o ≡ true → has c (appended w row t).nodes ≡ true
    by true e o f h = subst (λ z. has z (appended w row t).nodes ≡ true) (same_is w c e) own
    by false e None f h = cc
    by false e (Some y) f h = (seen top c (appended w row t).nodes y (k.others c (low_sound c t s here) e ∙ f)).there

pub appending_adds : AppendingAdds
appending_adds w row t s there = by (standing 0 w t.nodes) refl (is_seen 0 w t.nodes there)
  where
    by : (o : Option Standing) → standing 0 w t.nodes ≡ o → is_some o ≡ true → IsMore w row t (appended w row t)
    by None e h = cc
    by (Some x) e h =
        let k : Course w row t x (appended w row t) = course w row t x (low_sound w t s there) (fresh_sound t s) e in
        let own : Seen top w (appended w row t).nodes (record x { kids = x.kids + row_size row }) = seen top w (appended w row t).nodes (record x { kids = x.kids + row_size row }) k.own in
        record {
          ids = k.next;
          containers = k.cons;
          children = own.kids ∙ ap (λ n. n + row_size row) (sym (seen top w t.nodes x e).kids);
          kept = λ c here. still w c row t x s here k own.there;
        }
