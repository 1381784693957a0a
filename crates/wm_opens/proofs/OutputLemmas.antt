-- Outputs that come and go, and the opening: which windows they leave, and that what they leave is good.
use Rattle.std.proofs.Common.{◌≡◌, ℕ, ◌+◌, ◌≤◌, Bool, true, false, cond, ◌||◌, List, [], ◌∷◌, Option, None, Some, refl, ap, arith}
use Rattle.std.specs.Prelude.{length}
use Rattle.wm_opens.proofs.OwnerLemmas.{owners_kept}
use Rattle.wm_opens.proofs.SpaceLemmas.{kept_output_added}
use Rattle.wm_base.specs.declared.ids.ConId.{ConId}
use Rattle.wm_base.specs.declared.plan.Border.{Border}
use Rattle.wm_base.specs.declared.plan.OutputPlan.{OutputPlan}
use Rattle.wm_opens.proofs.KeptLemmas.{kept_without_output}
use Rattle.wm_opens.proofs.MeasureLemmas.{cons_kept, kinds_at, kinds_measured}
use Rattle.wm_opens.proofs.OpenLemmas.{added_output_keeps}
use Rattle.wm_opens.proofs.SureLemmas.{IsNoCon, Sure, cons_tallied, first_alone_no, no_con_none, sure_by, sure_refl, sure_trans}
use Rattle.wm_opens.proofs.SureSpaces.{sure_output}
use Rattle.wm_opens.proofs.TextLemmas.{holds_sure}
use Rattle.wm_opens.proofs.TidyLemmas.{holds_free, tidy_append, tidy_edited, tidy_first_floats, tidy_first_kids, tidy_free, tidy_only, tidy_put, tidy_without}
use Rattle.wm_opens.proofs.WordLemmas.{count-edited}
use Rattle.wm_opens.specs.Opens.{Holds, IsGood, IsTidy}
use Rattle.wm_shared.specs.Showing.{output_focused}
use Rattle.wm_spaces.proofs.ComingLemmas.{heir_output, named_output, still_output}
use Rattle.wm_spaces.specs.Coming.{free_name, left_output, output_added_tree, output_gone, output_gone_some, output_removed_tree}
use Rattle.wm_spaces.specs.Names.{output_named}
use Rattle.wm_tree.proofs.AttachLemmas.{has_row}
use Rattle.wm_forest.proofs.CountLemmas.{count-without, counted}
use Rattle.wm_tree.proofs.OutputLemmas.{sound-without_output}
use Rattle.wm_forest.specs.Change.{append, without}
use Rattle.wm_forest.specs.Counts.{one_con}
use Rattle.wm_forest.specs.declared.kind.KindEdit.TheVariants as edits
use Rattle.wm_forest.specs.declared.part.NodeKind.{NodeKind}
use Rattle.wm_forest.specs.declared.part.NodeKind.TheVariants.{Root, Output, Space, Con}
use Rattle.wm_forest.specs.declared.place.Place.TheVariants.{Last}
use Rattle.wm_forest.specs.Forest.{Forest, end, con}
use Rattle.wm_forest.specs.Look.{first_floats, first_kids, in_row, only, same}
use Rattle.wm_tree.specs.Outputs.{IsOutput, handed_on, left_to, new_output, without_output, yielded}
use Rattle.wm_forest.specs.Taking.{heir, taking_in}
use Rattle.wm_forest.specs.SoundRow.{IsNode, IsSoundRow, outputs, roots, tally}
use Rattle.wm_tree.specs.Sound.{IsSound}
use Rattle.wm_forest.specs.Spot.{room_below}
use Rattle.wm_tree.specs.TreeValue.{TreeValue, current, opening, opening_outputs}
use Rattle.wm_forest.specs.RootId.{id, root}
use Rattle.wm_tree.specs.Words.{edited}

-- ---- outputs

tidy_new_output : (plan : OutputPlan) (t : TreeValue) → IsTidy t.nodes → IsTidy (output_added_tree plan t).nodes
tidy_new_output plan t h = tidy_put (Last root) (new_output (id t.next_id) plan (id (t.next_id + 1)) (free_name t) t) t.nodes tt (tt, (tt, tt, tt, tt), tt, tt) h

pub holds_added : (plan : OutputPlan) (t : TreeValue) → IsGood t → IsSound (output_added_tree plan t) → Holds t (output_added_tree plan t)
holds_added plan t g s = record {
  good = record { sound = s; tidy = tidy_new_output plan t g.tidy };
  keeps = λ v. added_output_keeps plan t v;
  owners = λ who v. owners_kept who v t (output_added_tree plan t) g.sound s (kept_output_added plan t) (added_output_keeps plan t v);
}

output_kind_none : (tiled : Bool) (room : ℕ) (id : ConId) (kind : NodeKind) (marks : List (List ℕ)) (kids : Forest) → IsNode outputs tiled room id kind marks kids → one_con kind ≡ 0
output_kind_none tiled room id (Root c) marks kids n = absurd n
output_kind_none tiled room id (Output o) marks kids n = refl
output_kind_none tiled room id (Space w) marks kids n = absurd n
output_kind_none tiled room id (Con c) marks kids n = absurd n

-- no container has the id of an output of the row
row_no_con : (o : ConId) (tiled : Bool) (room : ℕ) (row : Forest) → IsSoundRow outputs tiled room row → in_row o row ≡ true → tally o row ≤ 1 → IsNoCon o row
row_no_con o tiled room end p h once = refl
row_no_con o tiled room (con part kids floats rest) p h once = by_test (same part.id o) refl h (λ k. row_no_con o tiled room rest p.4 k (omega (arith, once)))
  where
    by_test : (b : Bool) → same part.id o ≡ b → (b || in_row o rest) ≡ true → (in_row o rest ≡ true → IsNoCon o rest) → IsNoCon o (con part kids floats rest)
    by_test true e k next = first_alone_no o part kids floats rest e (output_kind_none tiled room part.id part.kind part.marks kids p.0) once
    by_test false e k next =
        let none : IsNoCon o rest = next k in
        let here : kinds_at one_con o part ≡ 0 = ap (λ b. cond b (one_con part.kind) 0) e in
        omega (arith, none, here, once, counted o rest (has_row o rest k), cons_tallied o kids, cons_tallied o floats)

root_level : (id : ConId) (kind : NodeKind) (marks : List (List ℕ)) (kids : Forest) → IsNode roots false 0 id kind marks kids → one_con kind ≡ 0
root_level id (Root c) marks kids n = refl
root_level id (Output o) marks kids n = absurd n
root_level id (Space w) marks kids n = absurd n
root_level id (Con c) marks kids n = absurd n

kinds_one : (b : Bool) (kind : NodeKind) → one_con kind ≡ 0 → cond b (one_con kind) 0 ≡ 0
kinds_one true kind e = e
kinds_one false kind e = refl

output_first : (o : ConId) (f : Forest) → IsSoundRow roots false 0 f → in_row o (first_kids f) ≡ true → tally o f ≤ 1 → IsNoCon o f
output_first o end p h once = refl
output_first o (con part kids floats rest) p h once =
    let none : IsNoCon o kids = row_no_con o true (room_below 0 part.kind) kids p.2 h (omega (arith, once)) in
    let here : kinds_at one_con o part ≡ 0 = kinds_one (same part.id o) part.kind (root_level part.id part.kind part.marks kids p.0) in
    omega (arith, none, here, once, counted o kids (has_row o kids h), cons_tallied o floats, cons_tallied o rest)

-- no container has the id of an output
output_no_con : (o : ConId) (t : TreeValue) → IsSound t → IsOutput o t.nodes → IsNoCon o t.nodes
output_no_con o t s out = output_first o t.nodes s.shaped out (s.once o)

tidy_yielded : (o h : ConId) (t : TreeValue) → IsTidy t.nodes → IsTidy (yielded o h t).nodes
tidy_yielded o h t p = step (same (current t) o)
  where
    step : (b : Bool) → IsTidy (cond b (edited root (edits.Current h) t) t).nodes
    step true = tidy_edited root (edits.Current h) t.nodes p
    step false = p

no_con_yielded : (w o h : ConId) (t : TreeValue) → IsNoCon w t.nodes → IsNoCon w (yielded o h t).nodes
no_con_yielded w o h t none = step (same (current t) o)
  where
    step : (b : Bool) → IsNoCon w (cond b (edited root (edits.Current h) t) t).nodes
    step true = omega (arith, none, count-edited (kinds_at one_con w) (kinds_measured one_con w cons_kept) root (edits.Current h) t refl)
    step false = none

tidy_handed : (o h : ConId) (t : TreeValue) → IsNoCon h t.nodes → IsTidy t.nodes → IsTidy (handed_on o h t).nodes
tidy_handed o h t none p =
    let gone : Forest = only o t.nodes in
    let q = tidy_only o t.nodes p in
    let left_none : IsNoCon h (without o t.nodes) = omega (arith, none, count-without (kinds_at one_con h) o t.nodes) in
    tidy_free h taking_in gone
    (λ part kids floats rest k r. (holds_free part.kind (append floats (first_floats gone)) k, tidy_append kids (first_kids gone) r.1 (tidy_first_kids gone q), tidy_append floats (first_floats gone) r.2 (tidy_first_floats gone q), r.3))
    (without o t.nodes) (no_con_none h (without o t.nodes) left_none) (tidy_without o t.nodes p)

yielded_recency : (o h : ConId) (t : TreeValue) → (handed_on o h (yielded o h t)).recency ≡ t.recency
yielded_recency o h t = step (same (current t) o)
  where
    step : (b : Bool) → (handed_on o h (cond b (edited root (edits.Current h) t) t)).recency ≡ t.recency
    step true = refl
    step false = refl

sure_without : (o : ConId) (t : TreeValue) → IsSound t → IsOutput o t.nodes → Sure t (without_output o t)
sure_without o t s out = sure_by t (without_output o t) (sound-without_output o t out s) (kept_without_output o t) (recency (heir o t.nodes)) (tidy (heir o t.nodes) refl)
  where
    recency : (h : Option ConId) → (left_to h o t).recency ≡ t.recency
    recency None = refl
    recency (Some h) = yielded_recency o h t

    tidy : (h : Option ConId) → heir o t.nodes ≡ h → IsTidy t.nodes → IsTidy (left_to h o t).nodes
    tidy None e p = p
    tidy (Some h) e p = tidy_handed o h (yielded o h t) (no_con_yielded h o h t (output_no_con h t s (heir_output o h t e))) (tidy_yielded o h t p)

sure_left : (o h : ConId) (t : TreeValue) → IsSound t → IsOutput h t.nodes → Sure t (left_output o h t)
sure_left o h t s out = step (same (current t) o)
  where
    step : (b : Bool) → Sure t (cond b (output_focused h t) t)
    step true = sure_output h t out s
    step false = sure_refl t s

sure_gone : (h : Option ConId) (o : ConId) (t : TreeValue) → heir o t.nodes ≡ h → IsSound t → IsOutput o t.nodes → Sure t (output_gone h o t)
sure_gone None o t e s out = sure_refl t s
sure_gone (Some h) o t e s out =
    let first : Sure t (left_output o h t) = sure_left o h t s (heir_output o h t e) in
    sure_trans t (left_output o h t) (without_output o (left_output o h t)) first (sure_without o (left_output o h t) first.sound (still_output o h t s out))

sure_gone_some : (name : List ℕ) (o : Option ConId) (t : TreeValue) → output_named name t ≡ o → IsSound t → Sure t (output_gone_some o t)
sure_gone_some name None t e s = sure_refl t s
sure_gone_some name (Some o) t e s = sure_gone (heir o t.nodes) o t refl s (named_output name o t e)

pub holds_removed : (name : List ℕ) (t : TreeValue) → IsGood t → Holds t (output_removed_tree name t)
holds_removed name t g = holds_sure t (output_removed_tree name t) g (sure_gone_some name (output_named name t) t refl g.sound)

-- ---- the opening tree

tidy_outputs : (k last inner outer : ℕ) (plans : List OutputPlan) → IsTidy (opening_outputs k last inner outer plans)
tidy_outputs k last inner outer [] = tt
tidy_outputs k last inner outer (plan ∷ plans) = (tt, (tt, tt, tt, tt), tt, tidy_outputs (k + 1) last inner outer plans)

pub tidy_opening : (plans : List OutputPlan) (border : Border) (inner outer : ℕ) → IsTidy (opening plans border inner outer).nodes
tidy_opening plans border inner outer = (tt, tidy_outputs 1 (1 + length plans) inner outer plans, tt, tt)
