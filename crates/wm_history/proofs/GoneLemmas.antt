-- Windows that are taken out one after the other: the tree stays sound.
use Rattle.std.proofs.Common.{◌≡◌, ◌≢◌, ℕ, suc, ◌-◌, ◌≤◌, Bool, true, false, cond, List, [], ◌∷◌, filter, length, get_or, take, drop, Option, None, Some, refl, ap, sym, subst, ◌∙◌, arith}
use Rattle.std.proofs.lemmas.List.{take_all}
use Rattle.wm_base.specs.declared.ids.ConId.{ConId}
use Rattle.wm_forest.specs.Look.{con_kind, has, kind_by, kind_of, only, same}
use Rattle.wm_tree.specs.Sound.{IsSound}
use Rattle.wm_forest.specs.SoundRow.{one_of}
use Rattle.wm_forest.specs.Spot.{top}
use Rattle.wm_forest.specs.Change.{without}
use Rattle.wm_tree.specs.TreeValue.{TreeValue}
use Rattle.wm_tree.specs.Words.{detached}
use Rattle.wm_forest.specs.declared.part.ConPart.{ConPart}
use Rattle.wm_forest.proofs.CountLemmas.{count-without, counted, there}
use Rattle.wm_forest.proofs.LookLemmas.{seen-without}
use Rattle.wm_opens.proofs.KeptLemmas.{Kept, kept_detached, kept_refl, kept_trans}
use Rattle.wm_history.specs.Windows.{AreContainers, is_caller, is_window, owned, part_owner, without_windows}

-- a row of windows is its first one and the others
pub first_of : (w d : ConId) (rest : List ConId) → 1 ≤ length rest → w ≡ get_or rest 0 d → rest ≡ w ∷ take (length rest - 1) (drop 1 rest)
first_of w d [] some is = absurd (omega arith)
first_of w d (v ∷ rest) some is = ap (λ x. x ∷ rest) (sym is) ∙ ap (λ xs. w ∷ xs) (sym (take_all (suc (length rest) - 1) rest (omega arith)))

-- ---- what is left is what it was

kept_kind : (c i : ConId) (t : TreeValue) → IsSound t → has i (detached c t).nodes ≡ true → kind_of con_kind i (detached c t).nodes ≡ kind_of con_kind i t.nodes
kept_kind c i t s h = ap (kind_by con_kind) (seen-without c i top t.nodes (by_test (has i (only c t.nodes)) refl)).part
  where
    by_test : (b : Bool) → has i (only c t.nodes) ≡ b → b ≡ false
    by_test false e = refl
    by_test true e = absurd (omega (arith, count-without (one_of i) c t.nodes, s.once i, counted i (only c t.nodes) e, counted i (without c t.nodes) h))

still_there : (c i : ConId) (t : TreeValue) → has i (detached c t).nodes ≡ true → has i t.nodes ≡ true
still_there c i t h = there i t.nodes (omega (arith, count-without (one_of i) c t.nodes, counted i (without c t.nodes) h))

pub still_containers : (c : ConId) (vs : List ConId) (t : TreeValue) → IsSound t → AreContainers vs t → AreContainers vs (detached c t)
still_containers c [] t s h = tt
still_containers c (v ∷ vs) t s h = (λ left none. h.0 (still_there c v t left) (sym (kept_kind c v t s left) ∙ none), still_containers c vs t s h.1)

-- the first of some windows is taken out, and then the others are
pub one_out : (whole : TreeValue) (w d : ConId) (rest : List ConId) (t new : TreeValue) → new ≡ detached w t → 1 ≤ length rest → w ≡ get_or rest 0 d → without_windows rest t ≡ whole → AreContainers rest t → IsSound t
    → (without_windows (take (length rest - 1) (drop 1 rest)) new ≡ whole) × AreContainers (take (length rest - 1) (drop 1 rest)) new × (has w t.nodes ≡ true → kind_of con_kind w t.nodes ≢ None)
one_out whole w d rest t new left some is same cons sound =
    let after = take (length rest - 1) (drop 1 rest) in
    let split = first_of w d rest some is in
    let each = subst (λ l. AreContainers l t) split cons in
    (ap (without_windows after) left ∙ (ap (λ l. without_windows l t) (sym split) ∙ same), subst (AreContainers after) (sym left) (still_containers w after t sound each.1), each.0)

-- ---- the windows of a caller

-- a window of a caller is a container
pub some_part : (who : ℕ) (part : Option ConPart) → is_caller who (part_owner part) ≡ true → part ≢ None
some_part who None h none = cc
some_part who (Some p) h none = cc

owned_some : (who : ℕ) (t : TreeValue) (ids : List ConId) → AreContainers (filter (is_window t who) ids) t
owned_some who t [] = tt
owned_some who t (v ∷ ids) = step (is_window t who v) refl (owned_some who t ids)
  where
    step : (b : Bool) → is_window t who v ≡ b → AreContainers (filter (is_window t who) ids) t → AreContainers (cond b (v ∷ filter (is_window t who) ids) (filter (is_window t who) ids)) t
    step true e others = (λ _. some_part who (kind_of con_kind v t.nodes) e, others)
    step false e others = others

pub owned_containers : (who : ℕ) (t : TreeValue) → AreContainers (owned who t) t
owned_containers who t = owned_some who t t.recency

-- no measure of the tree rises
pub kept_without : (vs : List ConId) (t : TreeValue) → Kept t (without_windows vs t)
kept_without [] t = kept_refl t
kept_without (v ∷ vs) t = kept_trans t (detached v t) (without_windows vs (detached v t)) (kept_detached v t) (kept_without vs (detached v t))
