-- Laws of what lasts: a workspace has at most one fullscreen container, whatever is done.
use Rattle.std.specs.Prelude.{◌≡◌, ◌≢◌, ℕ, Bool, if◌then◌else◌, List, Option, None}
use Rattle.wm_apply.specs.Batches.{outcome}
use Rattle.wm_base.specs.declared.geometry.Edges.{Edges}
use Rattle.wm_base.specs.declared.geometry.Size.{Size}
use Rattle.wm_base.specs.declared.ids.ConId.{ConId}
use Rattle.wm_base.specs.declared.plan.OutputPlan.{OutputPlan}
use Rattle.wm_base.specs.declared.properties.Props.{Props}
use Rattle.wm_criteria.specs.declared.verdict.Verdict.{Verdict}
use Rattle.law_fullscreen.specs.Fullscreen.{HasOne}
use Rattle.wm_layouts.specs.declared.plan.Env.{Env}
use Rattle.wm_spaces.specs.Coming.{output_added_tree, output_removed_tree}
use Rattle.wm_forest.specs.declared.kind.KindEdit.TheVariants as edits
use Rattle.wm_forest.specs.declared.place.NewCon.TheVariants as new
use Rattle.wm_forest.specs.Look.{con_kind, kind_of}
use Rattle.wm_forest.specs.Place.{passed_limit}
use Rattle.wm_swallow.specs.Swallowing.{swallowed}
use Rattle.wm_tree.specs.Sound.{IsSound}
use Rattle.wm_tree.specs.TreeValue.{TreeValue, newcomer_place}
use Rattle.wm_tree.specs.Words.{attached, detached, edited, settled, with_raised}

-- a text keeps at most one fullscreen container in each workspace
abbrev pub TextsKeepOneFullscreen : Type 0
TextsKeepOneFullscreen = (env : Env) (verdict : Verdict) (subject : Option ConId) (t : TreeValue) → IsSound t → HasOne t → HasOne (outcome env verdict subject t).tree

-- so does a window that is mapped, and then raised or not, and settling after it
abbrev pub MappingKeepsOneFullscreen : Type 0
MappingKeepsOneFullscreen =
    (who : ℕ) (props : Props) (natural : Size) (raises : Bool) (c : ConId) (t : TreeValue) → IsSound t → HasOne t → passed_limit (newcomer_place t) t.nodes t.next_id ≡ None
    → HasOne (settled (if raises then with_raised c (attached (newcomer_place t) (new.Window props who natural) t) else attached (newcomer_place t) (new.Window props who natural) t))

-- a window that comes to its placeholder, and is then raised or not, and settling after it
abbrev pub SwallowingKeepsOneFullscreen : Type 0
SwallowingKeepsOneFullscreen =
    (props : Props) (owner : ℕ) (natural : Size) (raises : Bool) (c : ConId) (t : TreeValue) → IsSound t → HasOne t
    → HasOne (settled (if raises then with_raised c (swallowed props owner natural t) else swallowed props owner natural t))

-- a container that is closed, and settling after it
abbrev pub ClosingKeepsOneFullscreen : Type 0
ClosingKeepsOneFullscreen = (c : ConId) (t : TreeValue) → IsSound t → HasOne t → kind_of con_kind c t.nodes ≢ None → HasOne (settled (detached c t))

-- another title of a window, and settling after it
abbrev pub RetitlingKeepsOneFullscreen : Type 0
RetitlingKeepsOneFullscreen = (c : ConId) (title : List ℕ) (t : TreeValue) → IsSound t → HasOne t → HasOne (settled (edited c (edits.Title title) t))

-- other urgent windows, and settling after it
abbrev pub UrgencyKeepsOneFullscreen : Type 0
UrgencyKeepsOneFullscreen = (urgent : List ConId) (t : TreeValue) → IsSound t → HasOne t → HasOne (settled (record t { urgent = urgent }))

-- other reserved edges of an output, and settling after it
abbrev pub ReservingKeepsOneFullscreen : Type 0
ReservingKeepsOneFullscreen = (o : ConId) (edges : Edges) (t : TreeValue) → IsSound t → HasOne t → HasOne (settled (edited o (edits.Reserved edges) t))

-- an output that comes, and settling after it
abbrev pub AddedOutputsKeepOneFullscreen : Type 0
AddedOutputsKeepOneFullscreen = (plan : OutputPlan) (t : TreeValue) → IsSound t → HasOne t → IsSound (output_added_tree plan t) → HasOne (settled (output_added_tree plan t))

-- an output that goes, and settling after it
abbrev pub RemovedOutputsKeepOneFullscreen : Type 0
RemovedOutputsKeepOneFullscreen = (name : List ℕ) (t : TreeValue) → IsSound t → HasOne t → HasOne (settled (output_removed_tree name t))
