-- Laws of the names of workspaces: they differ, whatever is done.
use Rattle.std.specs.Prelude.{◌≡◌, ◌≢◌, ℕ, Bool, if◌then◌else◌, List, Option, None}
use Rattle.wm_apply.specs.Batches.{outcome}
use Rattle.wm_base.specs.declared.geometry.Edges.{Edges}
use Rattle.wm_base.specs.declared.geometry.Size.{Size}
use Rattle.wm_base.specs.declared.ids.ConId.{ConId}
use Rattle.wm_base.specs.declared.plan.Border.{Border}
use Rattle.wm_base.specs.declared.plan.OutputPlan.{OutputPlan}
use Rattle.wm_base.specs.declared.properties.Props.{Props}
use Rattle.wm_criteria.specs.declared.verdict.Verdict.{Verdict}
use Rattle.law_workspaces.specs.Renamed.{SpaceNamesDiffer}
use Rattle.wm_layouts.specs.declared.plan.Env.{Env}
use Rattle.wm_spaces.specs.Coming.{free_name, output_added_tree, output_removed_tree}
use Rattle.wm_spaces.specs.Names.{space_named}
use Rattle.wm_forest.specs.declared.kind.KindEdit.TheVariants as edits
use Rattle.wm_forest.specs.declared.place.NewCon.TheVariants as new
use Rattle.wm_forest.specs.Look.{con_kind, kind_of}
use Rattle.wm_forest.specs.Place.{passed_limit}
use Rattle.wm_swallow.specs.Swallowing.{swallowed}
use Rattle.wm_tree.specs.Sound.{IsSound}
use Rattle.wm_tree.specs.TreeValue.{TreeValue, newcomer_place, opening}
use Rattle.wm_tree.specs.Words.{attached, detached, edited, settled, with_raised}

-- the names of workspaces differ in each tree with which a desk opens
abbrev pub OpeningsHaveSpaceNames : Type 0
OpeningsHaveSpaceNames = (plans : List OutputPlan) (border : Border) (inner outer : ℕ) → SpaceNamesDiffer (opening plans border inner outer)

-- the number that a new workspace gets as its name, where a command gives it none, is the name of no other one
abbrev pub NewNamesAreFree : Type 0
NewNamesAreFree = (t : TreeValue) → IsSound t → space_named (free_name t) t ≡ None

-- each text keeps that the names of workspaces differ
abbrev pub TextsKeepSpaceNames : Type 0
TextsKeepSpaceNames = (env : Env) (verdict : Verdict) (subject : Option ConId) (t : TreeValue) → IsSound t → SpaceNamesDiffer t → SpaceNamesDiffer (outcome env verdict subject t).tree

-- so does settling, which takes empty workspaces away
abbrev pub SettlingKeepsSpaceNames : Type 0
SettlingKeepsSpaceNames = (t : TreeValue) → IsSound t → SpaceNamesDiffer t → SpaceNamesDiffer (settled t)

-- a window that is mapped, and then raised or not, and settling after it
abbrev pub MappingKeepsSpaceNames : Type 0
MappingKeepsSpaceNames =
    (who : ℕ) (props : Props) (natural : Size) (raises : Bool) (c : ConId) (t : TreeValue) → IsSound t → SpaceNamesDiffer t → passed_limit (newcomer_place t) t.nodes t.next_id ≡ None
    → SpaceNamesDiffer (settled (if raises then with_raised c (attached (newcomer_place t) (new.Window props who natural) t) else attached (newcomer_place t) (new.Window props who natural) t))

-- a window that comes to its placeholder, and is then raised or not, and settling after it
abbrev pub SwallowingKeepsSpaceNames : Type 0
SwallowingKeepsSpaceNames =
    (props : Props) (owner : ℕ) (natural : Size) (raises : Bool) (c : ConId) (t : TreeValue) → IsSound t → SpaceNamesDiffer t
    → SpaceNamesDiffer (settled (if raises then with_raised c (swallowed props owner natural t) else swallowed props owner natural t))

-- a container that is closed, and settling after it
abbrev pub ClosingKeepsSpaceNames : Type 0
ClosingKeepsSpaceNames = (c : ConId) (t : TreeValue) → IsSound t → SpaceNamesDiffer t → kind_of con_kind c t.nodes ≢ None → SpaceNamesDiffer (settled (detached c t))

-- another title of a window, and settling after it
abbrev pub RetitlingKeepsSpaceNames : Type 0
RetitlingKeepsSpaceNames = (c : ConId) (title : List ℕ) (t : TreeValue) → IsSound t → SpaceNamesDiffer t → SpaceNamesDiffer (settled (edited c (edits.Title title) t))

-- other urgent windows, and settling after it
abbrev pub UrgencyKeepsSpaceNames : Type 0
UrgencyKeepsSpaceNames = (urgent : List ConId) (t : TreeValue) → IsSound t → SpaceNamesDiffer t → SpaceNamesDiffer (settled (record t { urgent = urgent }))

-- other reserved edges of an output, and settling after it
abbrev pub ReservingKeepsSpaceNames : Type 0
ReservingKeepsSpaceNames = (o : ConId) (edges : Edges) (t : TreeValue) → IsSound t → SpaceNamesDiffer t → SpaceNamesDiffer (settled (edited o (edits.Reserved edges) t))

-- an output that comes with a workspace of its own, and settling after it
abbrev pub AddedOutputsKeepSpaceNames : Type 0
AddedOutputsKeepSpaceNames = (plan : OutputPlan) (t : TreeValue) → IsSound t → SpaceNamesDiffer t → IsSound (output_added_tree plan t) → SpaceNamesDiffer (settled (output_added_tree plan t))

-- an output that goes, whose workspaces come to another one, and settling after it
abbrev pub RemovedOutputsKeepSpaceNames : Type 0
RemovedOutputsKeepSpaceNames = (name : List ℕ) (t : TreeValue) → IsSound t → SpaceNamesDiffer t → SpaceNamesDiffer (settled (output_removed_tree name t))
