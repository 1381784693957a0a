-- The scratchpad of sound trees, before and after each step.
use Rattle.std.proofs.Common.{◌≡◌, ◌≢◌, ℕ, Bool, true, false, cond, ◌&&◌, ◌||◌, not, List, Option, None, refl, sym, subst}
use Rattle.std.specs.Prelude.{is_some}
use Rattle.wm_apply.specs.Batches.{outcome}
use Rattle.wm_base.specs.declared.geometry.Edges.{Edges}
use Rattle.wm_base.specs.declared.geometry.Size.{Size}
use Rattle.wm_base.specs.declared.ids.ConId.{ConId}
use Rattle.wm_base.specs.declared.plan.Border.{Border}
use Rattle.wm_base.specs.declared.plan.OutputPlan.{OutputPlan}
use Rattle.wm_base.specs.declared.properties.Props.{Props}
use Rattle.wm_criteria.specs.declared.verdict.Verdict.{Verdict}
use Rattle.wm_forest.specs.Change.{is_window_kind}
use Rattle.law_lasting.proofs.BothLast.{both_last}
use Rattle.law_lasting.proofs.FlagLasts.{flags_added, flags_last, flags_opening}
use Rattle.law_lasting.proofs.FlagLemmas.{Right}
use Rattle.law_lasting.proofs.LastSteps.{has_closed, has_detached, has_mapped, has_removed, has_reserved, has_swallowed, has_titled, has_urgent}
use Rattle.law_lasting.proofs.LastTexts.{HasLast, has_outcome, has_settled}
use Rattle.law_lasting.proofs.StowedLasts.{Holds, holds_with_output, stowed_lasts}
use Rattle.law_lasting.proofs.StowedLemmas.{Stowed, row_of}
use Rattle.law_lasting.proofs.StowedMoves.{stowed_sound}
use Rattle.law_lasting.specs.Each.{Each}
use Rattle.law_lasting.specs.Flags.{FlagsOnlyWindows, may_be_flagged}
use Rattle.law_lasting.specs.Lasting.{IsOfNodes, Lasts}
use Rattle.law_lasting.specs.Rows.{AreStowed, is_stowed}
use Rattle.law_lasting.specs.Scratchpad.{AreHiddenWindows, HasScratchpad, is_hidden_window, scratchpad}
use Rattle.wm_layouts.specs.declared.plan.Env.{Env}
use Rattle.wm_spaces.specs.Coming.{free_name, output_added_tree, output_removed_tree}
use Rattle.wm_forest.specs.declared.kind.KindEdit.TheVariants as edits
use Rattle.wm_forest.specs.declared.part.NodeKind.{NodeKind}
use Rattle.wm_forest.specs.declared.part.NodeKind.TheVariants.{Root, Output, Space, Con}
use Rattle.wm_forest.specs.declared.place.NewCon.TheVariants as new
use Rattle.wm_forest.specs.Forest.{Forest, end, con}
use Rattle.wm_forest.specs.Look.{con_kind, first_floats, kind_of}
use Rattle.wm_forest.specs.Place.{passed_limit}
use Rattle.wm_swallow.specs.Swallowing.{swallowed}
use Rattle.wm_tree.specs.Sound.{IsSound}
use Rattle.wm_tree.specs.TreeValue.{TreeValue, newcomer_place, opening}
use Rattle.wm_tree.specs.Words.{attached, detached, edited, settled, with_raised}

-- ---- what stands in it

hidden_kind : (kind : NodeKind) → is_stowed kind ≡ true → may_be_flagged kind ≡ true → is_hidden_window kind ≡ true
hidden_kind (Root c) h f = cc
hidden_kind (Output o) h f = cc
hidden_kind (Space s) h f = cc
hidden_kind (Con c) h f = by (is_window_kind c.kind) c.state.flagged (is_some c.state.rect) h f
  where
    by : (a b d : Bool) → (b && d) ≡ true → (a || not b) ≡ true → (a && b && d) ≡ true
    by true true true h f = refl
    by true true false h f = cc
    by true false d h f = cc
    by false true d h f = cc
    by false false d h f = cc

hidden_row : (row : Forest) → AreStowed row → Each Right row → AreHiddenWindows row
hidden_row end p q = tt
hidden_row (con part kids floats rest) p q = (hidden_kind part.kind p.0 q.0, hidden_row rest p.1 q.3)

second_row : (f : Forest) → Each Right f → Each Right (first_floats f)
second_row end q = q
second_row (con part kids floats rest) q = q.2

pub scratchpad_windows : (t : TreeValue) → HasScratchpad t → AreHiddenWindows (scratchpad t)
scratchpad_windows t h = hidden_row (scratchpad t) h.row (second_row t.nodes h.flags)

-- ---- both properties last

pub both_lasts : Lasts (λ t. Holds t × FlagsOnlyWindows t)
both_lasts = both_last stowed_lasts flags_last

both_alone : IsOfNodes (λ t. Holds t × FlagsOnlyWindows t)
both_alone t new e h = (subst Stowed (sym e) h.0, subst (Each Right) (sym e) h.1)

pub from : (t : TreeValue) → IsSound t → HasScratchpad t → HasLast (λ z. Holds z × FlagsOnlyWindows z) t
from t s h = record { sound = s; held = (stowed_sound t s h.row, h.flags) }

pub back : (t : TreeValue) → HasLast (λ z. Holds z × FlagsOnlyWindows z) t → HasScratchpad t
back t g = record { flags = g.held.1; row = row_of t.nodes g.held.0 }

-- ---- steps

pub texts_keep : (env : Env) (verdict : Verdict) (subject : Option ConId) (t : TreeValue) → IsSound t → HasScratchpad t → HasScratchpad (outcome env verdict subject t).tree
texts_keep env verdict subject t s h = back (outcome env verdict subject t).tree (has_outcome both_lasts env verdict subject t (from t s h))

pub openings_empty : (plans : List OutputPlan) (border : Border) (inner outer : ℕ) → (scratchpad (opening plans border inner outer) ≡ end) × HasScratchpad (opening plans border inner outer)
openings_empty plans border inner outer = (refl, record { flags = flags_opening plans border inner outer; row = tt })

pub mapping_keeps : (who : ℕ) (props : Props) (natural : Size) (raises : Bool) (c : ConId) (t : TreeValue) → IsSound t → HasScratchpad t → passed_limit (newcomer_place t) t.nodes t.next_id ≡ None
    → HasScratchpad (settled (cond raises (with_raised c (attached (newcomer_place t) (new.Window props who natural) t)) (attached (newcomer_place t) (new.Window props who natural) t)))
mapping_keeps who props natural raises c t s h fits =
    back (settled (cond raises (with_raised c (attached (newcomer_place t) (new.Window props who natural) t)) (attached (newcomer_place t) (new.Window props who natural) t))) (has_mapped both_lasts who props natural raises c t (from t s h) fits)

pub swallowing_keeps : (props : Props) (owner : ℕ) (natural : Size) (raises : Bool) (c : ConId) (t : TreeValue) → IsSound t → HasScratchpad t
    → HasScratchpad (settled (cond raises (with_raised c (swallowed props owner natural t)) (swallowed props owner natural t)))
swallowing_keeps props owner natural raises c t s h =
    back (settled (cond raises (with_raised c (swallowed props owner natural t)) (swallowed props owner natural t))) (has_swallowed both_lasts props owner natural raises c t (from t s h))

pub closing_keeps : (c : ConId) (t : TreeValue) → IsSound t → HasScratchpad t → kind_of con_kind c t.nodes ≢ None → HasScratchpad (settled (detached c t))
closing_keeps c t s h ok = back (settled (detached c t)) (has_closed both_lasts c t (from t s h) ok)

pub going_keeps : (c : ConId) (t : TreeValue) → IsSound t → HasScratchpad t → kind_of con_kind c t.nodes ≢ None → HasScratchpad (detached c t)
going_keeps c t s h ok = back (detached c t) (has_detached both_lasts c t (from t s h) ok)

pub settling_keeps : (t : TreeValue) → IsSound t → HasScratchpad t → HasScratchpad (settled t)
settling_keeps t s h = back (settled t) (has_settled both_lasts t (from t s h))

pub retitling_keeps : (c : ConId) (title : List ℕ) (t : TreeValue) → IsSound t → HasScratchpad t → HasScratchpad (settled (edited c (edits.Title title) t))
retitling_keeps c title t s h = back (settled (edited c (edits.Title title) t)) (has_settled both_lasts (edited c (edits.Title title) t) (has_titled both_lasts c title t (from t s h)))

pub urgency_keeps : (urgent : List ConId) (t : TreeValue) → IsSound t → HasScratchpad t → HasScratchpad (settled (record t { urgent = urgent }))
urgency_keeps urgent t s h = back (settled (record t { urgent = urgent })) (has_settled both_lasts (record t { urgent = urgent }) (has_urgent both_alone urgent t (from t s h)))

pub reserving_keeps : (o : ConId) (edges : Edges) (t : TreeValue) → IsSound t → HasScratchpad t → HasScratchpad (settled (edited o (edits.Reserved edges) t))
reserving_keeps o edges t s h = back (settled (edited o (edits.Reserved edges) t)) (has_settled both_lasts (edited o (edits.Reserved edges) t) (has_reserved both_lasts o edges t (from t s h)))

pub added_outputs_keep : (plan : OutputPlan) (t : TreeValue) → IsSound t → HasScratchpad t → IsSound (output_added_tree plan t) → HasScratchpad (settled (output_added_tree plan t))
added_outputs_keep plan t s h after = back (settled (output_added_tree plan t)) (has_settled both_lasts (output_added_tree plan t) (record { sound = after; held = (holds_with_output plan (free_name t) t (from t s h).held.0, flags_added plan t h.flags) }))

pub removed_outputs_keep : (name : List ℕ) (t : TreeValue) → IsSound t → HasScratchpad t → HasScratchpad (settled (output_removed_tree name t))
removed_outputs_keep name t s h = back (settled (output_removed_tree name t)) (has_settled both_lasts (output_removed_tree name t) (has_removed both_lasts name t (from t s h)))
