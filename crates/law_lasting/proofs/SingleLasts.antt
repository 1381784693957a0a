-- A workspace has at most one fullscreen container: each word keeps that, and so does each step.
use Rattle.std.proofs.Common.{◌≡◌, ◌≢◌, ℕ, Bool, true, false, cond, List, [], Option, None, Some, refl}
use Rattle.wm_apply.specs.Batches.{outcome}
use Rattle.wm_base.specs.declared.geometry.Edges.{Edges}
use Rattle.wm_base.specs.declared.geometry.Size.{Size}
use Rattle.wm_base.specs.declared.ids.ConId.{ConId}
use Rattle.wm_base.specs.declared.plan.OutputPlan.{OutputPlan}
use Rattle.wm_base.specs.declared.properties.Props.{Props}
use Rattle.wm_criteria.specs.declared.verdict.Verdict.{Verdict}
use Rattle.law_fullscreen.proofs.FloatLemmas.{single_hidden, single_put_away, single_sinking}
use Rattle.law_fullscreen.proofs.SingleLemmas.{Single, has_of, single_along, single_attached, single_bare, single_detached, single_edited, single_exchanged, single_filled, single_marks, single_moved, single_nodes, single_of, single_raised, single_restated, single_settled, single_space_moved, single_taken_off, single_unmarked, single_with_output, single_with_space, single_without_output, single_wrapped}
use Rattle.law_fullscreen.proofs.WordLemmas.{is_state, one_attached}
use Rattle.law_fullscreen.specs.Fullscreen.{HasOne}
use Rattle.law_lasting.proofs.CalmLemmas.{calm_plain}
use Rattle.law_lasting.proofs.LastSteps.{has_closed, has_mapped, has_removed, has_reserved, has_swallowed, has_titled, has_urgent}
use Rattle.law_lasting.proofs.LastTexts.{HasLast, has_outcome, has_settled}
use Rattle.law_lasting.specs.Changes.{is_plain}
use Rattle.law_lasting.specs.Lasting.{Lasts}
use Rattle.wm_layouts.specs.declared.plan.Env.{Env}
use Rattle.wm_shared.proofs.ShowLemmas.{space_is}
use Rattle.wm_spaces.specs.Coming.{free_name, output_added_tree, output_removed_tree}
use Rattle.wm_forest.specs.declared.kind.KindEdit.{KindEdit}
use Rattle.wm_forest.specs.declared.kind.KindEdit.TheVariants as edits
use Rattle.wm_forest.specs.declared.place.NewCon.TheVariants as new
use Rattle.wm_forest.specs.declared.place.Place.TheVariants.{Last}
use Rattle.wm_forest.specs.Look.{con_kind, kind_of}
use Rattle.wm_swallow.specs.Swallowing.{swallowed}
use Rattle.wm_tree.proofs.AttachLemmas.{sound-attached}
use Rattle.wm_forest.specs.Place.{passed_limit}
use Rattle.wm_tree.specs.Sound.{IsSound}
use Rattle.wm_tree.specs.TreeValue.{TreeValue, newcomer_place}
use Rattle.wm_tree.specs.Words.{attached, detached, edited, settled, with_raised}

plain_state : (edit : KindEdit) → is_plain edit ≡ true → is_state edit ≡ false
plain_state (edits.State s) h = cc
plain_state other h = refl

pub single_lasts : Lasts Single
single_lasts = record {
  alike = λ t now e f g h q. single_nodes t now e q;
  editing = λ c edit t calm gives q. single_edited c edit t (plain_state edit (calm_plain edit calm)) q;
  renaming = λ was name w t s fits is q. single_edited w (edits.Name name) t refl q;
  restating = λ c old now t has keeps rects q. single_restated c old now t has keeps.0 q;
  filling = λ c on t s fits q. single_filled c on t s q;
  stripping = λ c t q. single_marks c [] t q;
  unmarking = λ c mark t q. single_unmarked c mark t q;
  giving = λ c mark add t s q. single_taken_off (Some c) mark _ (single_marks c _ t q);
  taking_off = λ keep mark t q. single_taken_off keep mark t q;
  baring = λ t q. single_bare t q;
  urging = λ v t s win new q. single_nodes t _ refl q;
  calming = λ v t q. single_nodes t _ refl q;
  raising = λ c t s q. single_raised c t s q;
  moving = λ c at t s goal out floats after q. single_moved c at t s goal q;
  exchanging = λ a b t s g after q. single_exchanged a b t s g after q;
  space_moving = λ w o t s ok out after q. single_space_moved w o t (space_is w t ok) after q;
  going_along = λ v w t low none q. single_along v w t q;
  hiding = λ c t s fits q. single_hidden c t s fits q;
  putting_away = λ w c t s on fits q. single_put_away w c t s on q;
  sinking = λ c t s fits q. single_sinking c t s fits q;
  attaching = λ who props natural t s fits q. single_attached who props natural t s fits q;
  joining = λ p newcomer t s room q. record { one = one_attached (Last p) newcomer t q.one; low = (sound-attached (Last p) newcomer t room.there room.place room.free s).low };
  wrapping = λ c layout t s own after q. single_wrapped c layout t after q;
  space_coming = λ o name t s out after free q. single_with_space o name t after q;
  output_coming = λ plan t s fine after q. single_with_output plan (free_name t) t after q;
  detaching = λ c t s ok q. single_detached c t s ok q;
  settling = λ t s q. single_settled t s q;
  output_going = λ o t s out q. single_without_output o t s out q;
}

-- ---- steps

from : (t : TreeValue) → IsSound t → HasOne t → HasLast Single t
from t s h = record { sound = s; held = single_of t s h }

back : (t : TreeValue) → HasLast Single t → HasOne t
back t g = has_of t g.sound g.held

pub texts_keep : (env : Env) (verdict : Verdict) (subject : Option ConId) (t : TreeValue) → IsSound t → HasOne t → HasOne (outcome env verdict subject t).tree
texts_keep env verdict subject t s h = back (outcome env verdict subject t).tree (has_outcome single_lasts env verdict subject t (from t s h))

pub mapping_keeps : (who : ℕ) (props : Props) (natural : Size) (raises : Bool) (c : ConId) (t : TreeValue) → IsSound t → HasOne t → passed_limit (newcomer_place t) t.nodes t.next_id ≡ None
    → HasOne (settled (cond raises (with_raised c (attached (newcomer_place t) (new.Window props who natural) t)) (attached (newcomer_place t) (new.Window props who natural) t)))
mapping_keeps who props natural raises c t s h fits =
    back (settled (cond raises (with_raised c (attached (newcomer_place t) (new.Window props who natural) t)) (attached (newcomer_place t) (new.Window props who natural) t))) (has_mapped single_lasts who props natural raises c t (from t s h) fits)

pub swallowing_keeps : (props : Props) (owner : ℕ) (natural : Size) (raises : Bool) (c : ConId) (t : TreeValue) → IsSound t → HasOne t
    → HasOne (settled (cond raises (with_raised c (swallowed props owner natural t)) (swallowed props owner natural t)))
swallowing_keeps props owner natural raises c t s h =
    back (settled (cond raises (with_raised c (swallowed props owner natural t)) (swallowed props owner natural t))) (has_swallowed single_lasts props owner natural raises c t (from t s h))

pub closing_keeps : (c : ConId) (t : TreeValue) → IsSound t → HasOne t → kind_of con_kind c t.nodes ≢ None → HasOne (settled (detached c t))
closing_keeps c t s h ok = back (settled (detached c t)) (has_closed single_lasts c t (from t s h) ok)

pub retitling_keeps : (c : ConId) (title : List ℕ) (t : TreeValue) → IsSound t → HasOne t → HasOne (settled (edited c (edits.Title title) t))
retitling_keeps c title t s h = back (settled (edited c (edits.Title title) t)) (has_settled single_lasts (edited c (edits.Title title) t) (has_titled single_lasts c title t (from t s h)))

pub urgency_keeps : (urgent : List ConId) (t : TreeValue) → IsSound t → HasOne t → HasOne (settled (record t { urgent = urgent }))
urgency_keeps urgent t s h = back (settled (record t { urgent = urgent })) (has_settled single_lasts (record t { urgent = urgent }) (has_urgent single_nodes urgent t (from t s h)))

pub reserving_keeps : (o : ConId) (edges : Edges) (t : TreeValue) → IsSound t → HasOne t → HasOne (settled (edited o (edits.Reserved edges) t))
reserving_keeps o edges t s h = back (settled (edited o (edits.Reserved edges) t)) (has_settled single_lasts (edited o (edits.Reserved edges) t) (has_reserved single_lasts o edges t (from t s h)))

pub added_outputs_keep : (plan : OutputPlan) (t : TreeValue) → IsSound t → HasOne t → IsSound (output_added_tree plan t) → HasOne (settled (output_added_tree plan t))
added_outputs_keep plan t s h after = back (settled (output_added_tree plan t)) (has_settled single_lasts (output_added_tree plan t) (record { sound = after; held = single_with_output plan (free_name t) t after (from t s h).held }))

pub removed_outputs_keep : (name : List ℕ) (t : TreeValue) → IsSound t → HasOne t → HasOne (settled (output_removed_tree name t))
removed_outputs_keep name t s h = back (settled (output_removed_tree name t)) (has_settled single_lasts (output_removed_tree name t) (has_removed single_lasts name t (from t s h)))
