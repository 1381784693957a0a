-- Laws of marks: no mark is on two containers, nor twice on one, whatever is done.
use Rattle.std.specs.Prelude.{◌≡◌, ◌≢◌, ℕ, Bool, if◌then◌else◌, List, Option, None}
use Rattle.wm_apply.specs.Batches.{outcome}
use Rattle.wm_base.specs.declared.geometry.Edges.{Edges}
use Rattle.wm_base.specs.declared.geometry.Size.{Size}
use Rattle.wm_base.specs.declared.ids.ConId.{ConId}
use Rattle.wm_base.specs.declared.plan.Border.{Border}
use Rattle.wm_base.specs.declared.plan.OutputPlan.{OutputPlan}
use Rattle.wm_base.specs.declared.properties.Props.{Props}
use Rattle.wm_criteria.specs.declared.verdict.Verdict.{Verdict}
use Rattle.law_marks.specs.Marks.{MarksDiffer}
use Rattle.wm_layouts.specs.declared.plan.Env.{Env}
use Rattle.wm_spaces.specs.Coming.{output_added_refusal, output_added_tree, output_removed_tree}
use Rattle.wm_forest.specs.declared.kind.KindEdit.TheVariants as edits
use Rattle.wm_forest.specs.declared.place.NewCon.TheVariants as new
use Rattle.wm_forest.specs.Look.{con_kind, kind_of}
use Rattle.wm_forest.specs.Place.{passed_limit}
use Rattle.wm_swallow.specs.Swallowing.{swallowed}
use Rattle.wm_tree.specs.Sound.{IsSound}
use Rattle.wm_tree.specs.TreeValue.{TreeValue, newcomer_place, opening}
use Rattle.wm_tree.specs.Words.{attached, detached, edited, settled, with_raised}

-- in each tree with which a desk opens marks differ
abbrev pub OpeningsHaveMarksApart : Type 0
OpeningsHaveMarksApart = (plans : List OutputPlan) (border : Border) (inner outer : ℕ) → MarksDiffer (opening plans border inner outer)

-- each text keeps that marks differ: a mark that a container is given goes off all other ones, and so does each one of a saved layout
abbrev pub TextsKeepMarksApart : Type 0
TextsKeepMarksApart = (env : Env) (verdict : Verdict) (subject : Option ConId) (t : TreeValue) → IsSound t → MarksDiffer t → MarksDiffer (outcome env verdict subject t).tree

-- so does settling
abbrev pub SettlingKeepsMarksApart : Type 0
SettlingKeepsMarksApart = (t : TreeValue) → IsSound t → MarksDiffer t → MarksDiffer (settled t)

-- a window that is mapped, and then raised or not, and settling after it
abbrev pub MappingKeepsMarksApart : Type 0
MappingKeepsMarksApart =
    (who : ℕ) (props : Props) (natural : Size) (raises : Bool) (c : ConId) (t : TreeValue) → IsSound t → MarksDiffer t → passed_limit (newcomer_place t) t.nodes t.next_id ≡ None
    → MarksDiffer (settled (if raises then with_raised c (attached (newcomer_place t) (new.Window props who natural) t) else attached (newcomer_place t) (new.Window props who natural) t))

-- a window that comes to its placeholder, and is then raised or not, and settling after it
abbrev pub SwallowingKeepsMarksApart : Type 0
SwallowingKeepsMarksApart =
    (props : Props) (owner : ℕ) (natural : Size) (raises : Bool) (c : ConId) (t : TreeValue) → IsSound t → MarksDiffer t
    → MarksDiffer (settled (if raises then with_raised c (swallowed props owner natural t) else swallowed props owner natural t))

-- a container that is closed, and settling after it
abbrev pub ClosingKeepsMarksApart : Type 0
ClosingKeepsMarksApart = (c : ConId) (t : TreeValue) → IsSound t → MarksDiffer t → kind_of con_kind c t.nodes ≢ None → MarksDiffer (settled (detached c t))

-- another title of a window, and settling after it
abbrev pub RetitlingKeepsMarksApart : Type 0
RetitlingKeepsMarksApart = (c : ConId) (title : List ℕ) (t : TreeValue) → IsSound t → MarksDiffer t → MarksDiffer (settled (edited c (edits.Title title) t))

-- other urgent windows, and settling after it
abbrev pub UrgencyKeepsMarksApart : Type 0
UrgencyKeepsMarksApart = (urgent : List ConId) (t : TreeValue) → IsSound t → MarksDiffer t → MarksDiffer (settled (record t { urgent = urgent }))

-- other reserved edges of an output, and settling after it
abbrev pub ReservingKeepsMarksApart : Type 0
ReservingKeepsMarksApart = (o : ConId) (edges : Edges) (t : TreeValue) → IsSound t → MarksDiffer t → MarksDiffer (settled (edited o (edits.Reserved edges) t))

-- an output that comes, where it is not refused, and settling after it
abbrev pub AddedOutputsKeepMarksApart : Type 0
AddedOutputsKeepMarksApart =
    (plan : OutputPlan) (t : TreeValue) → IsSound t → MarksDiffer t → output_added_refusal plan t ≡ None → IsSound (output_added_tree plan t) → MarksDiffer (settled (output_added_tree plan t))

-- an output that goes, and settling after it
abbrev pub RemovedOutputsKeepMarksApart : Type 0
RemovedOutputsKeepMarksApart = (name : List ℕ) (t : TreeValue) → IsSound t → MarksDiffer t → MarksDiffer (settled (output_removed_tree name t))
