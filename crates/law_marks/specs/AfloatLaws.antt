-- Laws of what floats: on workspaces and in the scratchpad stand windows, each with an outer rectangle within the limits, whatever is done.
use Rattle.std.specs.Prelude.{◌≡◌, ◌≢◌, ℕ, Bool, if◌then◌else◌, List, Option, None}
use Rattle.wm_apply.specs.Batches.{outcome}
use Rattle.wm_base.specs.declared.geometry.Edges.{Edges}
use Rattle.wm_base.specs.declared.geometry.Size.{Size}
use Rattle.wm_base.specs.declared.ids.ConId.{ConId}
use Rattle.wm_base.specs.declared.plan.Border.{Border}
use Rattle.wm_base.specs.declared.plan.OutputPlan.{OutputPlan}
use Rattle.wm_base.specs.declared.properties.Props.{Props}
use Rattle.wm_criteria.specs.declared.verdict.Verdict.{Verdict}
use Rattle.law_marks.specs.Afloat.{WindowsFloat}
use Rattle.wm_layouts.specs.declared.plan.Env.{Env}
use Rattle.wm_spaces.specs.Coming.{output_added_refusal, output_added_tree, output_removed_tree}
use Rattle.wm_forest.specs.declared.kind.KindEdit.TheVariants as edits
use Rattle.wm_forest.specs.declared.place.NewCon.TheVariants as new
use Rattle.wm_forest.specs.Look.{con_kind, kind_of}
use Rattle.wm_forest.specs.Place.{passed_limit}
use Rattle.wm_swallow.specs.Swallowing.{swallowed}
use Rattle.wm_tree.specs.Sound.{IsSound}
use Rattle.wm_tree.specs.TreeValue.{TreeValue, newcomer_place, opening}
use Rattle.wm_tree.specs.Words.{attached, detached, edited, settled, with_raised}

-- in each tree with which a desk opens that is so
abbrev pub OpeningsFloatWindows : Type 0
OpeningsFloatWindows = (plans : List OutputPlan) (border : Border) (inner outer : ℕ) → WindowsFloat (opening plans border inner outer)

-- each text keeps that what floats or hides is a window with an outer rectangle within the limits
abbrev pub TextsKeepWindowsAfloat : Type 0
TextsKeepWindowsAfloat = (env : Env) (verdict : Verdict) (subject : Option ConId) (t : TreeValue) → IsSound t → WindowsFloat t → WindowsFloat (outcome env verdict subject t).tree

-- so does settling
abbrev pub SettlingKeepsWindowsAfloat : Type 0
SettlingKeepsWindowsAfloat = (t : TreeValue) → IsSound t → WindowsFloat t → WindowsFloat (settled t)

-- a window that is mapped, and then raised or not, and settling after it
abbrev pub MappingKeepsWindowsAfloat : Type 0
MappingKeepsWindowsAfloat =
    (who : ℕ) (props : Props) (natural : Size) (raises : Bool) (c : ConId) (t : TreeValue) → IsSound t → WindowsFloat t → passed_limit (newcomer_place t) t.nodes t.next_id ≡ None
    → WindowsFloat (settled (if raises then with_raised c (attached (newcomer_place t) (new.Window props who natural) t) else attached (newcomer_place t) (new.Window props who natural) t))

-- a window that comes to its placeholder, and is then raised or not, and settling after it
abbrev pub SwallowingKeepsWindowsAfloat : Type 0
SwallowingKeepsWindowsAfloat =
    (props : Props) (owner : ℕ) (natural : Size) (raises : Bool) (c : ConId) (t : TreeValue) → IsSound t → WindowsFloat t
    → WindowsFloat (settled (if raises then with_raised c (swallowed props owner natural t) else swallowed props owner natural t))

-- a container that is closed, and settling after it
abbrev pub ClosingKeepsWindowsAfloat : Type 0
ClosingKeepsWindowsAfloat = (c : ConId) (t : TreeValue) → IsSound t → WindowsFloat t → kind_of con_kind c t.nodes ≢ None → WindowsFloat (settled (detached c t))

-- another title of a window, and settling after it
abbrev pub RetitlingKeepsWindowsAfloat : Type 0
RetitlingKeepsWindowsAfloat = (c : ConId) (title : List ℕ) (t : TreeValue) → IsSound t → WindowsFloat t → WindowsFloat (settled (edited c (edits.Title title) t))

-- other urgent windows, and settling after it
abbrev pub UrgencyKeepsWindowsAfloat : Type 0
UrgencyKeepsWindowsAfloat = (urgent : List ConId) (t : TreeValue) → IsSound t → WindowsFloat t → WindowsFloat (settled (record t { urgent = urgent }))

-- other reserved edges of an output, and settling after it
abbrev pub ReservingKeepsWindowsAfloat : Type 0
ReservingKeepsWindowsAfloat = (o : ConId) (edges : Edges) (t : TreeValue) → IsSound t → WindowsFloat t → WindowsFloat (settled (edited o (edits.Reserved edges) t))

-- an output that comes, where it is not refused, and settling after it
abbrev pub AddedOutputsKeepWindowsAfloat : Type 0
AddedOutputsKeepWindowsAfloat =
    (plan : OutputPlan) (t : TreeValue) → IsSound t → WindowsFloat t → output_added_refusal plan t ≡ None → IsSound (output_added_tree plan t) → WindowsFloat (settled (output_added_tree plan t))

-- an output that goes, and settling after it
abbrev pub RemovedOutputsKeepWindowsAfloat : Type 0
RemovedOutputsKeepWindowsAfloat = (name : List ℕ) (t : TreeValue) → IsSound t → WindowsFloat t → WindowsFloat (settled (output_removed_tree name t))
