-- The names of outputs differ after each text and after each other step.
use Rattle.std.proofs.Common.{◌≡◌, ◌≢◌, ℕ, Bool, cond, List, Option, None}
use Rattle.wm_apply.specs.Batches.{outcome}
use Rattle.wm_base.specs.declared.geometry.Edges.{Edges}
use Rattle.wm_base.specs.declared.geometry.Size.{Size}
use Rattle.wm_base.specs.declared.ids.ConId.{ConId}
use Rattle.wm_base.specs.declared.plan.OutputPlan.{OutputPlan}
use Rattle.wm_base.specs.declared.properties.Props.{Props}
use Rattle.wm_criteria.specs.declared.verdict.Verdict.{Verdict}
use Rattle.law_names.proofs.LastCounts.{AtMostOne, of_nodes}
use Rattle.law_lasting.proofs.LastSteps.{has_closed, has_mapped, has_removed, has_reserved, has_swallowed, has_titled, has_urgent}
use Rattle.law_lasting.proofs.LastTexts.{HasLast, has_outcome, has_settled}
use Rattle.law_names.proofs.OutputNames.{differ_of, once_of, outputs_called, outputs_last, outputs_placed}
use Rattle.law_workspaces.proofs.AddLaws.{adds_other}
use Rattle.law_workspaces.specs.Added.{OutputNamesDiffer}
use Rattle.wm_layouts.specs.declared.plan.Env.{Env}
use Rattle.wm_spaces.specs.Coming.{output_added_refusal, output_added_tree, output_removed_tree}
use Rattle.wm_forest.specs.declared.kind.KindEdit.TheVariants as edits
use Rattle.wm_forest.specs.declared.place.NewCon.TheVariants as new
use Rattle.wm_forest.specs.Look.{con_kind, kind_of}
use Rattle.wm_forest.specs.Place.{passed_limit}
use Rattle.wm_swallow.specs.Swallowing.{swallowed}
use Rattle.wm_tree.specs.Sound.{IsSound}
use Rattle.wm_tree.specs.TreeValue.{TreeValue, newcomer_place}
use Rattle.wm_tree.specs.Words.{attached, detached, edited, settled, with_raised}

from : (t : TreeValue) → IsSound t → OutputNamesDiffer t → HasLast (AtMostOne outputs_called) t
from t s h = record { sound = s; held = once_of t s h }

back : (t : TreeValue) → HasLast (AtMostOne outputs_called) t → OutputNamesDiffer t
back t g = differ_of t g.sound g.held

pub texts_keep_names : (env : Env) (verdict : Verdict) (subject : Option ConId) (t : TreeValue) → IsSound t → OutputNamesDiffer t → OutputNamesDiffer (outcome env verdict subject t).tree
texts_keep_names env verdict subject t s h = back (outcome env verdict subject t).tree (has_outcome outputs_last env verdict subject t (from t s h))

pub settling_keeps : (t : TreeValue) → IsSound t → OutputNamesDiffer t → OutputNamesDiffer (settled t)
settling_keeps t s h = back (settled t) (has_settled outputs_last t (from t s h))

pub mapping_keeps : (who : ℕ) (props : Props) (natural : Size) (raises : Bool) (c : ConId) (t : TreeValue) → IsSound t → OutputNamesDiffer t → passed_limit (newcomer_place t) t.nodes t.next_id ≡ None
    → OutputNamesDiffer (settled (cond raises (with_raised c (attached (newcomer_place t) (new.Window props who natural) t)) (attached (newcomer_place t) (new.Window props who natural) t)))
mapping_keeps who props natural raises c t s h fits =
    back (settled (cond raises (with_raised c (attached (newcomer_place t) (new.Window props who natural) t)) (attached (newcomer_place t) (new.Window props who natural) t))) (has_mapped outputs_last who props natural raises c t (from t s h) fits)

pub swallowing_keeps : (props : Props) (owner : ℕ) (natural : Size) (raises : Bool) (c : ConId) (t : TreeValue) → IsSound t → OutputNamesDiffer t
    → OutputNamesDiffer (settled (cond raises (with_raised c (swallowed props owner natural t)) (swallowed props owner natural t)))
swallowing_keeps props owner natural raises c t s h =
    back (settled (cond raises (with_raised c (swallowed props owner natural t)) (swallowed props owner natural t))) (has_swallowed outputs_last props owner natural raises c t (from t s h))

pub closing_keeps : (c : ConId) (t : TreeValue) → IsSound t → OutputNamesDiffer t → kind_of con_kind c t.nodes ≢ None → OutputNamesDiffer (settled (detached c t))
closing_keeps c t s h ok = back (settled (detached c t)) (has_closed outputs_last c t (from t s h) ok)

pub retitling_keeps : (c : ConId) (title : List ℕ) (t : TreeValue) → IsSound t → OutputNamesDiffer t → OutputNamesDiffer (settled (edited c (edits.Title title) t))
retitling_keeps c title t s h = back (settled (edited c (edits.Title title) t)) (has_settled outputs_last (edited c (edits.Title title) t) (has_titled outputs_last c title t (from t s h)))

pub urgency_keeps : (urgent : List ConId) (t : TreeValue) → IsSound t → OutputNamesDiffer t → OutputNamesDiffer (settled (record t { urgent = urgent }))
urgency_keeps urgent t s h = back (settled (record t { urgent = urgent })) (has_settled outputs_last (record t { urgent = urgent }) (has_urgent (of_nodes outputs_called outputs_placed) urgent t (from t s h)))

pub reserving_keeps : (o : ConId) (edges : Edges) (t : TreeValue) → IsSound t → OutputNamesDiffer t → OutputNamesDiffer (settled (edited o (edits.Reserved edges) t))
reserving_keeps o edges t s h = back (settled (edited o (edits.Reserved edges) t)) (has_settled outputs_last (edited o (edits.Reserved edges) t) (has_reserved outputs_last o edges t (from t s h)))

pub removed_outputs_keep : (name : List ℕ) (t : TreeValue) → IsSound t → OutputNamesDiffer t → OutputNamesDiffer (settled (output_removed_tree name t))
removed_outputs_keep name t s h = back (settled (output_removed_tree name t)) (has_settled outputs_last (output_removed_tree name t) (has_removed outputs_last name t (from t s h)))

pub added_outputs_keep : (plan : OutputPlan) (t : TreeValue) → IsSound t → OutputNamesDiffer t → output_added_refusal plan t ≡ None → IsSound (output_added_tree plan t) → OutputNamesDiffer (settled (output_added_tree plan t))
added_outputs_keep plan t s h fine after = settling_keeps (output_added_tree plan t) after ((adds_other plan t s fine).1 h)
