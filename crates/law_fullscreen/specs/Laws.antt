-- Laws of fullscreen: each step keeps at most one fullscreen container in each workspace.
use Rattle.std.specs.Prelude.{◌≡◌, ◌≢◌, ℕ, Bool, true, false, List, None, Some}
use Rattle.wm_base.specs.declared.geometry.Size.{Size}
use Rattle.wm_base.specs.declared.ids.ConId.{ConId}
use Rattle.wm_base.specs.declared.plan.Border.{Border}
use Rattle.wm_base.specs.declared.plan.Layout.{Layout}
use Rattle.wm_base.specs.declared.plan.OutputPlan.{OutputPlan}
use Rattle.wm_base.specs.declared.properties.Props.{Props}
use Rattle.wm_floats.specs.Floating.{IsGoal}
use Rattle.wm_floats.specs.Fullscreen.{fullscreen_tree}
use Rattle.law_fullscreen.specs.Fullscreen.{HasOne, IsSingle, full_count}
use Rattle.wm_tree.specs.Along.{AreSpaces, gone_along}
use Rattle.wm_forest.specs.declared.place.NewCon.TheVariants as new
use Rattle.wm_forest.specs.declared.place.Place.{Place}
use Rattle.wm_forest.specs.Look.{con_kind, has, kind_of, space_kind}
use Rattle.wm_tree.specs.Move.{IsExchange, exchanged, is_too_deep, moved, passed_by_move, passed_by_wrap, wrapped}
use Rattle.wm_tree.specs.Outputs.{IsNotShown, IsOutput, passed_by_output, passed_by_space, space_moved, with_output, with_space, without_output}
use Rattle.wm_forest.specs.Place.{IsTiled, passed_limit}
use Rattle.wm_forest.specs.SoundRow.{IsOutputRect}
use Rattle.wm_tree.specs.Sound.{IsSound}
use Rattle.wm_tree.specs.TreeValue.{TreeValue, newcomer_place, opening, workspace_of}
use Rattle.wm_tree.specs.Words.{attached, detached, settled, with_raised}

-- a node is raised
abbrev pub RaisingKeepsOne : Type 0
RaisingKeepsOne = (c : ConId) (t : TreeValue) → IsSound t → HasOne t → HasOne (with_raised c t)

-- a container moves to a place, also from or to another workspace or the scratchpad
abbrev pub MovingKeepsOne : Type 0
MovingKeepsOne = (c : ConId) (p : Place) (t : TreeValue) → IsSound t → IsGoal c p t → passed_by_move c p t.nodes ≡ None → HasOne t → HasOne (moved c p t)

-- two containers change places
abbrev pub ExchangingKeepsOne : Type 0
ExchangingKeepsOne =
    (a b : ConId) (t : TreeValue) → IsSound t → has a t.nodes ≡ true → has b t.nodes ≡ true → IsExchange a b t.nodes → is_too_deep a b t.nodes ≡ false → HasOne t → HasOne (exchanged a b t)

-- a container becomes fullscreen, or is so no longer
abbrev pub FillingKeepsOne : Type 0
FillingKeepsOne = (c : ConId) (on : Bool) (t : TreeValue) → IsSound t → HasOne t → HasOne (fullscreen_tree c on t)

-- a container that becomes fullscreen is then the only one of its workspace
abbrev pub FillingFillsAlone : Type 0
FillingFillsAlone = (c w : ConId) (t : TreeValue) → IsSound t → kind_of con_kind c t.nodes ≢ None → workspace_of t c ≡ Some w → full_count w (fullscreen_tree c true t) ≡ 1

-- sticky windows go along from one workspace to another
abbrev pub GoingAlongKeepsOne : Type 0
GoingAlongKeepsOne = (v w : ConId) (t : TreeValue) → IsSound t → AreSpaces v w t.nodes → HasOne t → HasOne (gone_along v w t)

-- a container is wrapped in a split
abbrev pub WrappingKeepsOne : Type 0
WrappingKeepsOne = (c : ConId) (layout : Layout) (t : TreeValue) → IsSound t → has c t.nodes ≡ true → IsTiled c t.nodes → passed_by_wrap c t.nodes t.next_id ≡ None → HasOne t → HasOne (wrapped c layout t)

-- the tree settles
abbrev pub SettlingKeepsOne : Type 0
SettlingKeepsOne = (t : TreeValue) → IsSound t → HasOne t → HasOne (settled t)

-- a window is mapped
abbrev pub MappingKeepsOne : Type 0
MappingKeepsOne =
    (who : ℕ) (props : Props) (natural : Size) (t : TreeValue) → IsSound t → passed_limit (newcomer_place t) t.nodes t.next_id ≡ None → HasOne t → HasOne (attached (newcomer_place t) (new.Window props who natural) t)

-- a container is closed
abbrev pub ClosingKeepsOne : Type 0
ClosingKeepsOne = (c : ConId) (t : TreeValue) → IsSound t → kind_of con_kind c t.nodes ≢ None → HasOne t → HasOne (detached c t)

-- a workspace comes, under an output
abbrev pub AddedSpacesKeepOne : Type 0
AddedSpacesKeepOne = (o : ConId) (name : List ℕ) (t : TreeValue) → IsSound t → IsOutput o t.nodes → passed_by_space t.nodes t.next_id ≡ None → HasOne t → HasOne (with_space o name t)

-- a workspace that is not shown comes to an output
abbrev pub MovedSpacesKeepOne : Type 0
MovedSpacesKeepOne = (w o : ConId) (t : TreeValue) → IsSound t → kind_of space_kind w t.nodes ≢ None → IsNotShown w t.nodes → IsOutput o t.nodes → HasOne t → HasOne (space_moved w o t)

-- an output comes, with a workspace
abbrev pub AddedOutputsKeepOne : Type 0
AddedOutputsKeepOne = (plan : OutputPlan) (name : List ℕ) (t : TreeValue) → IsSound t → IsOutputRect plan.rect → passed_by_output t.nodes t.next_id ≡ None → HasOne t → HasOne (with_output plan name t)

-- an output goes, and its workspaces come to another one
abbrev pub RemovedOutputsKeepOne : Type 0
RemovedOutputsKeepOne = (o : ConId) (t : TreeValue) → IsSound t → IsOutput o t.nodes → HasOne t → HasOne (without_output o t)

-- an opening tree has no more than one in each workspace
abbrev pub OpeningsHaveOne : Type 0
OpeningsHaveOne = (plans : List OutputPlan) (border : Border) (inner outer : ℕ) → HasOne (opening plans border inner outer)

-- in a sound tree, each workspace's own count and the count row by row say the same
abbrev pub CountsAgree : Type 0
CountsAgree = (t : TreeValue) → IsSound t → (HasOne t → IsSingle t.nodes) × (IsSingle t.nodes → HasOne t)
