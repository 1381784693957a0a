-- Shares that are set change nothing else.
use Rattle.std.proofs.Common.{◌≡◌, ℕ, Bool, true, false, cond, List, [], ◌∷◌, Option, None, Some, refl, ap, sym, ◌∙◌}
use Rattle.law_sizes.specs.Shares.{DifferInShares, ResizeKeeps, unshared, unshared_kind}
use Rattle.wm_base.specs.declared.ids.ConId.{ConId}
use Rattle.wm_sizes.proofs.SetLemmas.{edited_stays}
use Rattle.wm_sizes.proofs.ShareLaws.{or_false}
use Rattle.wm_sizes.specs.Climbing.{rung_of, side_axis}
use Rattle.wm_sizes.specs.Deals.{dealt, share_after, siblings, turn_after}
use Rattle.wm_sizes.specs.declared.climbing.Rung.{Rung}
use Rattle.wm_sizes.specs.declared.deals.Deal.{Deal}
use Rattle.wm_forest.specs.declared.shares.Sibling.{Sibling}
use Rattle.wm_sizes.specs.declared.tiled.Growth.{Growth}
use Rattle.wm_sizes.specs.Tiled.{children_of, rung_deal, rung_tree, shares_set}
use Rattle.wm_forest.proofs.RecencyLemmas.{same_is, same_self}
use Rattle.wm_forest.specs.Change.{at}
use Rattle.wm_forest.specs.Counts.{share_of}
use Rattle.wm_forest.specs.declared.kind.KindEdit.{KindEdit}
use Rattle.wm_forest.specs.declared.kind.KindEdit.TheVariants as edits
use Rattle.wm_forest.specs.declared.part.NodeKind.{NodeKind}
use Rattle.wm_forest.specs.declared.part.NodeKind.TheVariants.{Root, Output, Space, Con}
use Rattle.wm_forest.specs.Forest.{Forest, end, con}
use Rattle.wm_forest.specs.Kinds.{changed, kind_changed}
use Rattle.wm_forest.specs.Look.{first_part, has, in_row, only, same}
use Rattle.wm_tree.specs.TreeValue.{TreeValue}

-- ---- without shares

kind_unshared : (n : ℕ) (kind : NodeKind) → unshared_kind (changed (edits.Share n) kind) ≡ unshared_kind kind
kind_unshared n (Root c) = refl
kind_unshared n (Output o) = refl
kind_unshared n (Space s) = refl
kind_unshared n (Con c) = refl

unshared_at : (c : ConId) (n : ℕ) (f : Forest) → unshared (at c kind_changed (edits.Share n) f) ≡ unshared f
unshared_at c n end = refl
unshared_at c n (con part kids floats rest) = step (same part.id c) (has c kids) (has c floats) (unshared_at c n kids) (unshared_at c n floats) (unshared_at c n rest) where
  step : (a k l : Bool) → unshared (at c kind_changed (edits.Share n) kids) ≡ unshared kids → unshared (at c kind_changed (edits.Share n) floats) ≡ unshared floats → unshared (at c kind_changed (edits.Share n) rest) ≡ unshared rest
      → unshared (cond a (kind_changed (edits.Share n) part kids floats rest) (cond k (con part (at c kind_changed (edits.Share n) kids) floats rest) (cond l (con part kids (at c kind_changed (edits.Share n) floats) rest) (con part kids floats (at c kind_changed (edits.Share n) rest)))))
      ≡ unshared (con part kids floats rest)
  step true k l x y z = ap (λ (m : NodeKind). con (record part { kind = m }) (unshared kids) (unshared floats) (unshared rest)) (kind_unshared n part.kind)
  step false true l x y z = rw x refl
  step false false true x y z = rw y refl
  step false false false x y z = rw z refl

pub set_unshared : (l : List Sibling) (t : TreeValue) → record (shares_set l t) { nodes = unshared (shares_set l t).nodes } ≡ record t { nodes = unshared t.nodes }
set_unshared [] t = refl
set_unshared (s ∷ l) t = ap (λ (z : Forest). record (shares_set l t) { nodes = z }) (unshared_at s.id s.share (shares_set l t).nodes) ∙ set_unshared l t

-- ---- other nodes

turned : (a b : ConId) → same a b ≡ false → same b a ≡ false
turned a b h = by (same b a) refl where
  by : (x : Bool) → same b a ≡ x → same b a ≡ false
  by false e = e
  by true e = let one = same_self a b (sym (same_is b a e)) in absurd (cc)

-- a change of another node is not seen
pub part_edited : (c i : ConId) (e : KindEdit) (f : Forest) → same c i ≡ false → first_part (only i (at c kind_changed e f)) ≡ first_part (only i f)
part_edited c i e end n = refl
part_edited c i e (con part kids floats rest) n =
    step (same part.id c) refl (has c kids) (has c floats) (edited_stays c i e kids).there (edited_stays c i e floats).there (part_edited c i e kids n) (part_edited c i e floats n) (part_edited c i e rest n)
  where
    found : (a k l : Bool) (ks ls rs : Forest) → first_part (only i ks) ≡ first_part (only i kids) → first_part (only i ls) ≡ first_part (only i floats) → first_part (only i rs) ≡ first_part (only i rest)
        → first_part (cond a (con part ks ls end) (cond k (only i ks) (cond l (only i ls) (only i rs)))) ≡ first_part (cond a (con part kids floats end) (cond k (only i kids) (cond l (only i floats) (only i rest))))
    found true k l ks ls rs x y z = refl
    found false true l ks ls rs x y z = x
    found false false true ks ls rs x y z = y
    found false false false ks ls rs x y z = z

    mine : same part.id c ≡ true → same part.id i ≡ false
    mine s = let one : part.id ≡ c = same_is part.id c s in ap (λ z. same z i) one ∙ n

    step : (s : Bool) → same part.id c ≡ s → (k l : Bool) → has i (at c kind_changed e kids) ≡ has i kids → has i (at c kind_changed e floats) ≡ has i floats
        → first_part (only i (at c kind_changed e kids)) ≡ first_part (only i kids) → first_part (only i (at c kind_changed e floats)) ≡ first_part (only i floats) → first_part (only i (at c kind_changed e rest)) ≡ first_part (only i rest)
        → first_part (only i (cond s (kind_changed e part kids floats rest) (cond k (con part (at c kind_changed e kids) floats rest) (cond l (con part kids (at c kind_changed e floats) rest) (con part kids floats (at c kind_changed e rest))))))
        ≡ first_part (only i (con part kids floats rest))
    step true s k l hk hl x y z = rw (mine s) refl
    step false s true l hk hl x y z = rw hk (found (same part.id i) (has i kids) (has i floats) (at c kind_changed e kids) floats rest x refl refl)
    step false s false true hk hl x y z = rw hl (found (same part.id i) (has i kids) (has i floats) kids (at c kind_changed e floats) rest refl y refl)
    step false s false false hk hl x y z = found (same part.id i) (has i kids) (has i floats) kids floats (at c kind_changed e rest) refl refl z

pub others_kept : (d : Deal) (turn : ℕ) (i : ConId) (row : Forest) (t : TreeValue) → in_row i row ≡ false → first_part (only i (shares_set (dealt d turn (siblings row)) t).nodes) ≡ first_part (only i t.nodes)
others_kept d turn i end t h = refl
others_kept d turn i (con part kids floats rest) t h =
    let o = or_false (same part.id i) (in_row i rest) h in
    let next : ℕ = turn_after d part.id turn in
    part_edited part.id i (edits.Share (share_after d (record { id = part.id; share = share_of part.kind }) turn)) (shares_set (dealt d next (siblings rest)) t).nodes o.0 ∙ others_kept d next i rest t o.1

-- ---- the law

pub differ : (g : Growth) (r : Option Rung) (t : TreeValue) → DifferInShares r t (rung_tree g r t)
differ g None t = record { rest = refl; others = λ i h. refl }
differ g (Some r) t = record {
  rest = set_unshared (dealt (rung_deal g r t) 0 (siblings (children_of r.parent t))) t;
  others = λ i h. others_kept (rung_deal g r t) 0 i (children_of r.parent t) t h;
}

pub resize_keeps : ResizeKeeps
resize_keeps c grow side px ppt t tiled = rw tiled (differ (record { grow = grow; side = side; px = px; ppt = ppt }) (rung_of (side_axis side) c t) t)
