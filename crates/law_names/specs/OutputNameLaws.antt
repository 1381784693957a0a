-- Laws of the names of outputs: they differ, whatever is done.
use Rattle.std.specs.Prelude.{◌≡◌, ◌≢◌, ℕ, Bool, if◌then◌else◌, List, Option, None}
use Rattle.wm_apply.specs.Batches.{outcome}
use Rattle.wm_base.specs.declared.geometry.Edges.{Edges}
use Rattle.wm_base.specs.declared.geometry.Size.{Size}
use Rattle.wm_base.specs.declared.ids.ConId.{ConId}
use Rattle.wm_base.specs.declared.plan.Border.{Border}
use Rattle.wm_base.specs.declared.plan.OutputPlan.{OutputPlan}
use Rattle.wm_base.specs.declared.properties.Props.{Props}
use Rattle.wm_criteria.specs.declared.verdict.Verdict.{Verdict}
use Rattle.law_workspaces.specs.Added.{OutputNamesDiffer}
use Rattle.wm_layouts.specs.declared.plan.Env.{Env}
use Rattle.wm_layouts.specs.Plan.{NamesDiffer}
use Rattle.wm_spaces.specs.Coming.{output_added_refusal, output_added_tree, output_removed_tree}
use Rattle.wm_forest.specs.declared.kind.KindEdit.TheVariants as edits
use Rattle.wm_forest.specs.declared.place.NewCon.TheVariants as new
use Rattle.wm_forest.specs.Look.{con_kind, kind_of}
use Rattle.wm_forest.specs.Place.{passed_limit}
use Rattle.wm_swallow.specs.Swallowing.{swallowed}
use Rattle.wm_tree.specs.Sound.{IsSound}
use Rattle.wm_tree.specs.TreeValue.{TreeValue, newcomer_place, opening}
use Rattle.wm_tree.specs.Words.{attached, detached, edited, settled, with_raised}

-- the names of outputs differ in each tree with which a desk opens, where those that are planned differ
abbrev pub OpeningsHaveOutputNames : Type 0
OpeningsHaveOutputNames = (plans : List OutputPlan) (border : Border) (inner outer : ℕ) → NamesDiffer plans → OutputNamesDiffer (opening plans border inner outer)

-- each text keeps that the names of outputs differ
abbrev pub TextsKeepOutputNames : Type 0
TextsKeepOutputNames = (env : Env) (verdict : Verdict) (subject : Option ConId) (t : TreeValue) → IsSound t → OutputNamesDiffer t → OutputNamesDiffer (outcome env verdict subject t).tree

-- so does settling
abbrev pub SettlingKeepsOutputNames : Type 0
SettlingKeepsOutputNames = (t : TreeValue) → IsSound t → OutputNamesDiffer t → OutputNamesDiffer (settled t)

-- a window that is mapped, and then raised or not, and settling after it
abbrev pub MappingKeepsOutputNames : Type 0
MappingKeepsOutputNames =
    (who : ℕ) (props : Props) (natural : Size) (raises : Bool) (c : ConId) (t : TreeValue) → IsSound t → OutputNamesDiffer t → passed_limit (newcomer_place t) t.nodes t.next_id ≡ None
    → OutputNamesDiffer (settled (if raises then with_raised c (attached (newcomer_place t) (new.Window props who natural) t) else attached (newcomer_place t) (new.Window props who natural) t))

-- a window that comes to its placeholder, and is then raised or not, and settling after it
abbrev pub SwallowingKeepsOutputNames : Type 0
SwallowingKeepsOutputNames =
    (props : Props) (owner : ℕ) (natural : Size) (raises : Bool) (c : ConId) (t : TreeValue) → IsSound t → OutputNamesDiffer t
    → OutputNamesDiffer (settled (if raises then with_raised c (swallowed props owner natural t) else swallowed props owner natural t))

-- a container that is closed, and settling after it
abbrev pub ClosingKeepsOutputNames : Type 0
ClosingKeepsOutputNames = (c : ConId) (t : TreeValue) → IsSound t → OutputNamesDiffer t → kind_of con_kind c t.nodes ≢ None → OutputNamesDiffer (settled (detached c t))

-- another title of a window, and settling after it
abbrev pub RetitlingKeepsOutputNames : Type 0
RetitlingKeepsOutputNames = (c : ConId) (title : List ℕ) (t : TreeValue) → IsSound t → OutputNamesDiffer t → OutputNamesDiffer (settled (edited c (edits.Title title) t))

-- other urgent windows, and settling after it
abbrev pub UrgencyKeepsOutputNames : Type 0
UrgencyKeepsOutputNames = (urgent : List ConId) (t : TreeValue) → IsSound t → OutputNamesDiffer t → OutputNamesDiffer (settled (record t { urgent = urgent }))

-- other reserved edges of an output, and settling after it
abbrev pub ReservingKeepsOutputNames : Type 0
ReservingKeepsOutputNames = (o : ConId) (edges : Edges) (t : TreeValue) → IsSound t → OutputNamesDiffer t → OutputNamesDiffer (settled (edited o (edits.Reserved edges) t))

-- an output that comes, where it is not refused: no other one has its name; and settling after it
abbrev pub AddedOutputsKeepOutputNames : Type 0
AddedOutputsKeepOutputNames =
    (plan : OutputPlan) (t : TreeValue) → IsSound t → OutputNamesDiffer t → output_added_refusal plan t ≡ None → IsSound (output_added_tree plan t) → OutputNamesDiffer (settled (output_added_tree plan t))

-- an output that goes, and settling after it
abbrev pub RemovedOutputsKeepOutputNames : Type 0
RemovedOutputsKeepOutputNames = (name : List ℕ) (t : TreeValue) → IsSound t → OutputNamesDiffer t → OutputNamesDiffer (settled (output_removed_tree name t))
