-- Laws of what lasts: the scratchpad has only flagged windows with an outer rectangle, whatever is done.
use Rattle.std.specs.Prelude.{◌≡◌, ◌≢◌, ℕ, Bool, if◌then◌else◌, List, Option, None}
use Rattle.wm_apply.specs.Batches.{outcome}
use Rattle.wm_base.specs.declared.geometry.Edges.{Edges}
use Rattle.wm_base.specs.declared.geometry.Size.{Size}
use Rattle.wm_base.specs.declared.ids.ConId.{ConId}
use Rattle.wm_base.specs.declared.plan.Border.{Border}
use Rattle.wm_base.specs.declared.plan.OutputPlan.{OutputPlan}
use Rattle.wm_base.specs.declared.properties.Props.{Props}
use Rattle.wm_criteria.specs.declared.verdict.Verdict.{Verdict}
use Rattle.law_lasting.specs.Scratchpad.{AreHiddenWindows, HasScratchpad, scratchpad}
use Rattle.wm_layouts.specs.declared.plan.Env.{Env}
use Rattle.wm_spaces.specs.Coming.{output_added_tree, output_removed_tree}
use Rattle.wm_forest.specs.declared.kind.KindEdit.TheVariants as edits
use Rattle.wm_forest.specs.declared.place.NewCon.TheVariants as new
use Rattle.wm_forest.specs.Forest.{end}
use Rattle.wm_forest.specs.Look.{con_kind, kind_of}
use Rattle.wm_forest.specs.Place.{passed_limit}
use Rattle.wm_swallow.specs.Swallowing.{swallowed}
use Rattle.wm_tree.specs.Sound.{IsSound}
use Rattle.wm_tree.specs.TreeValue.{TreeValue, newcomer_place, opening}
use Rattle.wm_tree.specs.Words.{attached, detached, edited, settled, with_raised}

-- the scratchpad has only windows, each flagged and with an outer rectangle
abbrev pub TheScratchpadHasWindows : Type 0
TheScratchpadHasWindows = (t : TreeValue) → HasScratchpad t → AreHiddenWindows (scratchpad t)

-- a text keeps that
abbrev pub TextsKeepTheScratchpad : Type 0
TextsKeepTheScratchpad = (env : Env) (verdict : Verdict) (subject : Option ConId) (t : TreeValue) → IsSound t → HasScratchpad t → HasScratchpad (outcome env verdict subject t).tree

-- the scratchpad of an opening tree is empty
abbrev pub OpeningsHaveAnEmptyScratchpad : Type 0
OpeningsHaveAnEmptyScratchpad = (plans : List OutputPlan) (border : Border) (inner outer : ℕ) → (scratchpad (opening plans border inner outer) ≡ end) × HasScratchpad (opening plans border inner outer)

-- a window that is mapped, and then raised or not, and settling after it keep the order of the scratchpad
abbrev pub MappingKeepsTheScratchpad : Type 0
MappingKeepsTheScratchpad =
    (who : ℕ) (props : Props) (natural : Size) (raises : Bool) (c : ConId) (t : TreeValue) → IsSound t → HasScratchpad t → passed_limit (newcomer_place t) t.nodes t.next_id ≡ None
    → HasScratchpad (settled (if raises then with_raised c (attached (newcomer_place t) (new.Window props who natural) t) else attached (newcomer_place t) (new.Window props who natural) t))

-- a window that comes to its placeholder, and is then raised or not, and settling after it
abbrev pub SwallowingKeepsTheScratchpad : Type 0
SwallowingKeepsTheScratchpad =
    (props : Props) (owner : ℕ) (natural : Size) (raises : Bool) (c : ConId) (t : TreeValue) → IsSound t → HasScratchpad t
    → HasScratchpad (settled (if raises then with_raised c (swallowed props owner natural t) else swallowed props owner natural t))

-- a container that is closed, and settling after it
abbrev pub ClosingKeepsTheScratchpad : Type 0
ClosingKeepsTheScratchpad = (c : ConId) (t : TreeValue) → IsSound t → HasScratchpad t → kind_of con_kind c t.nodes ≢ None → HasScratchpad (settled (detached c t))

-- a container that goes, before settling
abbrev pub GoingKeepsTheScratchpad : Type 0
GoingKeepsTheScratchpad = (c : ConId) (t : TreeValue) → IsSound t → HasScratchpad t → kind_of con_kind c t.nodes ≢ None → HasScratchpad (detached c t)

-- settling alone keeps it
abbrev pub SettlingKeepsTheScratchpad : Type 0
SettlingKeepsTheScratchpad = (t : TreeValue) → IsSound t → HasScratchpad t → HasScratchpad (settled t)

-- another title of a window, and settling after it
abbrev pub RetitlingKeepsTheScratchpad : Type 0
RetitlingKeepsTheScratchpad = (c : ConId) (title : List ℕ) (t : TreeValue) → IsSound t → HasScratchpad t → HasScratchpad (settled (edited c (edits.Title title) t))

-- other urgent windows, and settling after it
abbrev pub UrgencyKeepsTheScratchpad : Type 0
UrgencyKeepsTheScratchpad = (urgent : List ConId) (t : TreeValue) → IsSound t → HasScratchpad t → HasScratchpad (settled (record t { urgent = urgent }))

-- other reserved edges of an output, and settling after it
abbrev pub ReservingKeepsTheScratchpad : Type 0
ReservingKeepsTheScratchpad = (o : ConId) (edges : Edges) (t : TreeValue) → IsSound t → HasScratchpad t → HasScratchpad (settled (edited o (edits.Reserved edges) t))

-- an output that comes, and settling after it
abbrev pub AddedOutputsKeepTheScratchpad : Type 0
AddedOutputsKeepTheScratchpad = (plan : OutputPlan) (t : TreeValue) → IsSound t → HasScratchpad t → IsSound (output_added_tree plan t) → HasScratchpad (settled (output_added_tree plan t))

-- an output that goes, and settling after it
abbrev pub RemovedOutputsKeepTheScratchpad : Type 0
RemovedOutputsKeepTheScratchpad = (name : List ℕ) (t : TreeValue) → IsSound t → HasScratchpad t → HasScratchpad (settled (output_removed_tree name t))
