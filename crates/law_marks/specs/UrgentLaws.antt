-- Laws of urgent ids: each is a window of the tree, and none is urgent twice, whatever is done. No container of the trees has floating windows.
use Rattle.std.specs.Prelude.{◌≡◌, ◌≢◌, ℕ, Bool, true, false, if◌then◌else◌, List, [], ◌∷◌, ◌++◌, Option, None}
use Rattle.wm_apply.specs.Batches.{outcome}
use Rattle.wm_base.specs.declared.geometry.Edges.{Edges}
use Rattle.wm_base.specs.declared.geometry.Size.{Size}
use Rattle.wm_base.specs.declared.ids.ConId.{ConId}
use Rattle.wm_base.specs.declared.plan.Border.{Border}
use Rattle.wm_base.specs.declared.plan.OutputPlan.{OutputPlan}
use Rattle.wm_base.specs.declared.properties.Props.{Props}
use Rattle.wm_criteria.specs.declared.verdict.Verdict.{Verdict}
use Rattle.law_marks.specs.Urgent.{UrgentAreWindows}
use Rattle.wm_layouts.specs.declared.plan.Env.{Env}
use Rattle.wm_spaces.specs.Coming.{output_added_refusal, output_added_tree, output_removed_tree}
use Rattle.wm_forest.specs.declared.kind.KindEdit.TheVariants as edits
use Rattle.wm_forest.specs.declared.place.NewCon.TheVariants as new
use Rattle.wm_forest.specs.Look.{con_kind, kind_of}
use Rattle.wm_forest.specs.Place.{passed_limit}
use Rattle.wm_forest.specs.Recency.{lists, without_id}
use Rattle.wm_opens.specs.Opens.{IsGood, is_window_of}
use Rattle.wm_swallow.specs.Swallowing.{swallowed}
use Rattle.wm_tree.specs.Sound.{IsSound}
use Rattle.wm_tree.specs.TreeValue.{TreeValue, newcomer_place, opening}
use Rattle.wm_tree.specs.Words.{attached, detached, edited, settled, with_raised}

-- in a tree with which a desk opens none is urgent
abbrev pub OpeningsHaveNoneUrgent : Type 0
OpeningsHaveNoneUrgent = (plans : List OutputPlan) (border : Border) (inner outer : ℕ) → ((opening plans border inner outer).urgent ≡ []) × UrgentAreWindows (opening plans border inner outer)

-- each text keeps that the urgent ids are windows, none of them twice
abbrev pub TextsKeepUrgentWindows : Type 0
TextsKeepUrgentWindows = (env : Env) (verdict : Verdict) (subject : Option ConId) (t : TreeValue) → IsGood t → UrgentAreWindows t → UrgentAreWindows (outcome env verdict subject t).tree

-- so does settling
abbrev pub SettlingKeepsUrgentWindows : Type 0
SettlingKeepsUrgentWindows = (t : TreeValue) → IsGood t → UrgentAreWindows t → UrgentAreWindows (settled t)

-- a window that is mapped, and then raised or not, and settling after it
abbrev pub MappingKeepsUrgentWindows : Type 0
MappingKeepsUrgentWindows =
    (who : ℕ) (props : Props) (natural : Size) (raises : Bool) (c : ConId) (t : TreeValue) → IsGood t → UrgentAreWindows t → passed_limit (newcomer_place t) t.nodes t.next_id ≡ None
    → UrgentAreWindows (settled (if raises then with_raised c (attached (newcomer_place t) (new.Window props who natural) t) else attached (newcomer_place t) (new.Window props who natural) t))

-- a window that comes to its placeholder, and is then raised or not, and settling after it
abbrev pub SwallowingKeepsUrgentWindows : Type 0
SwallowingKeepsUrgentWindows =
    (props : Props) (owner : ℕ) (natural : Size) (raises : Bool) (c : ConId) (t : TreeValue) → IsGood t → UrgentAreWindows t
    → UrgentAreWindows (settled (if raises then with_raised c (swallowed props owner natural t) else swallowed props owner natural t))

-- a container that is closed, and settling after it
abbrev pub ClosingKeepsUrgentWindows : Type 0
ClosingKeepsUrgentWindows = (c : ConId) (t : TreeValue) → IsGood t → UrgentAreWindows t → kind_of con_kind c t.nodes ≢ None → UrgentAreWindows (settled (detached c t))

-- another title of a window, and settling after it
abbrev pub RetitlingKeepsUrgentWindows : Type 0
RetitlingKeepsUrgentWindows = (c : ConId) (title : List ℕ) (t : TreeValue) → IsGood t → UrgentAreWindows t → UrgentAreWindows (settled (edited c (edits.Title title) t))

-- a window that becomes urgent, and settling after it
abbrev pub UrgencyKeepsUrgentWindows : Type 0
UrgencyKeepsUrgentWindows = (v : ConId) (t : TreeValue) → IsGood t → UrgentAreWindows t → is_window_of t v ≡ true → lists v t.urgent ≡ false → UrgentAreWindows (settled (record t { urgent = t.urgent ++ v ∷ [] }))

-- one that is urgent no longer, and settling after it
abbrev pub CalmKeepsUrgentWindows : Type 0
CalmKeepsUrgentWindows = (v : ConId) (t : TreeValue) → IsGood t → UrgentAreWindows t → UrgentAreWindows (settled (record t { urgent = without_id v t.urgent }))

-- other reserved edges of an output, and settling after it
abbrev pub ReservingKeepsUrgentWindows : Type 0
ReservingKeepsUrgentWindows = (o : ConId) (edges : Edges) (t : TreeValue) → IsGood t → UrgentAreWindows t → UrgentAreWindows (settled (edited o (edits.Reserved edges) t))

-- an output that comes, where it is not refused, and settling after it
abbrev pub AddedOutputsKeepUrgentWindows : Type 0
AddedOutputsKeepUrgentWindows =
    (plan : OutputPlan) (t : TreeValue) → IsGood t → UrgentAreWindows t → output_added_refusal plan t ≡ None → IsSound (output_added_tree plan t) → UrgentAreWindows (settled (output_added_tree plan t))

-- an output that goes, and settling after it
abbrev pub RemovedOutputsKeepUrgentWindows : Type 0
RemovedOutputsKeepUrgentWindows = (name : List ℕ) (t : TreeValue) → IsGood t → UrgentAreWindows t → UrgentAreWindows (settled (output_removed_tree name t))
