-- Laws of windows: which ids stand in a tree as windows before and after a step, and which may still open.
use Rattle.std.specs.Prelude.{◌≡◌, ◌≢◌, ℕ, ◌+◌, ◌≤◌, true, false, if◌then◌else◌, List, Option, None, Some}
use Rattle.wm_apply.specs.Batches.{outcome}
use Rattle.wm_base.specs.declared.geometry.Size.{Size}
use Rattle.wm_base.specs.declared.ids.ConId.{ConId}
use Rattle.wm_base.specs.declared.plan.Border.{Border}
use Rattle.wm_base.specs.declared.plan.OutputPlan.{OutputPlan}
use Rattle.wm_base.specs.declared.properties.Props.{Props}
use Rattle.wm_criteria.specs.declared.verdict.Verdict.{Verdict}
use Rattle.wm_layouts.specs.declared.plan.Env.{Env}
use Rattle.wm_opens.specs.Opens.{Fills, Holds, IsGood, IsTidy, OpensNoOther, is_fill, is_owned_of, is_placeholder_of, is_window_of, may_open, placeholders_at, window_at, windows_at}
use Rattle.wm_spaces.specs.Coming.{output_added_tree, output_removed_tree}
use Rattle.wm_forest.specs.Counts.{count}
use Rattle.wm_forest.specs.declared.kind.KindEdit.{KindEdit}
use Rattle.wm_forest.specs.declared.place.NewCon.TheVariants as new
use Rattle.wm_forest.specs.Look.{con_kind, kind_of, only, same}
use Rattle.wm_forest.specs.Place.{passed_limit}
use Rattle.wm_swallow.specs.Swallowing.{swallowed, swallower}
use Rattle.wm_tree.specs.Sound.{IsSound}
use Rattle.wm_tree.specs.TreeValue.{TreeValue, newcomer_place, opening}
use Rattle.wm_forest.specs.RootId.{id}
use Rattle.wm_tree.specs.Words.{attached, detached, edited, settled, with_raised}

-- no command of a text makes a window
abbrev pub TextsOpenNone : Type 0
TextsOpenNone = (env : Env) (verdict : Verdict) (subject : Option ConId) (t : TreeValue) (v : ConId) → windows_at v (outcome env verdict subject t).tree ≤ windows_at v t

-- a text keeps each window of a good tree, and leaves a good one
abbrev pub TextsKeepWindows : Type 0
TextsKeepWindows = (env : Env) (verdict : Verdict) (subject : Option ConId) (t : TreeValue) → IsGood t → Holds t (outcome env verdict subject t).tree

-- what is a window before a text is one after it, and no other is
abbrev pub TextsLeaveWindows : Type 0
TextsLeaveWindows =
    (env : Env) (verdict : Verdict) (subject : Option ConId) (t : TreeValue) (v : ConId) → IsGood t → is_window_of (outcome env verdict subject t).tree v ≡ is_window_of t v

-- after a text each window is the same caller's, and no other one is
abbrev pub TextsKeepOwners : Type 0
TextsKeepOwners =
    (env : Env) (verdict : Verdict) (subject : Option ConId) (t : TreeValue) (who : ℕ) (v : ConId) → IsGood t
    → is_owned_of (outcome env verdict subject t).tree who v ≡ is_owned_of t who v

-- settling makes no window
abbrev pub SettlingOpensNone : Type 0
SettlingOpensNone = (t : TreeValue) (v : ConId) → windows_at v (settled t) ≤ windows_at v t

-- settling keeps each window of a good tree, and leaves a good one
abbrev pub SettlingKeepsWindows : Type 0
SettlingKeepsWindows = (t : TreeValue) → IsGood t → Holds t (settled t)

-- a good tree with a window that is mapped is good
abbrev pub MappingStaysGood : Type 0
MappingStaysGood =
    (who : ℕ) (props : Props) (natural : Size) (t : TreeValue) → IsGood t → passed_limit (newcomer_place t) t.nodes t.next_id ≡ None → IsGood (attached (newcomer_place t) (new.Window props who natural) t)

-- a window that is mapped is one more under the next id, and no other comes or goes
abbrev pub MappingOpensOne : Type 0
MappingOpensOne =
    (who : ℕ) (props : Props) (natural : Size) (t : TreeValue) (v : ConId) → IsSound t
    → windows_at v (attached (newcomer_place t) (new.Window props who natural) t) ≡ windows_at v t + (if same (id t.next_id) v then 1 else 0)

-- raising keeps each window
abbrev pub RaisingKeepsWindows : Type 0
RaisingKeepsWindows = (c : ConId) (t : TreeValue) (v : ConId) → windows_at v (with_raised c t) ≡ windows_at v t

-- a change of a node keeps each window, unless it fills a placeholder
abbrev pub EditsKeepWindows : Type 0
EditsKeepWindows = (c : ConId) (edit : KindEdit) (t : TreeValue) (v : ConId) → is_fill edit ≡ false → windows_at v (edited c edit t) ≡ windows_at v t

-- a node that is taken out takes the windows with it that it is or holds, and no other
abbrev pub ClosingTakesItsOwn : Type 0
ClosingTakesItsOwn = (c : ConId) (t : TreeValue) (v : ConId) → windows_at v (detached c t) + count (window_at v) (only c t.nodes) ≡ windows_at v t

-- a window that is taken out of a sound tree is there no more
abbrev pub ClosingCloses : Type 0
ClosingCloses = (c : ConId) (t : TreeValue) → IsSound t → windows_at c (detached c t) ≡ 0

-- a window that is taken out of a good tree takes no other window with it
abbrev pub ClosingKeepsOthers : Type 0
ClosingKeepsOthers = (c v : ConId) (t : TreeValue) → IsGood t → is_window_of t c ≡ true → same c v ≡ false → windows_at v (detached c t) ≡ windows_at v t

-- a good tree without a container is good
abbrev pub ClosingStaysGood : Type 0
ClosingStaysGood = (c : ConId) (t : TreeValue) → IsGood t → kind_of con_kind c t.nodes ≢ None → IsGood (detached c t)

-- an output that comes keeps each window
abbrev pub AddedOutputsKeepWindows : Type 0
AddedOutputsKeepWindows = (plan : OutputPlan) (t : TreeValue) (v : ConId) → windows_at v (output_added_tree plan t) ≡ windows_at v t

-- an output that goes makes no window
abbrev pub RemovedOutputsOpenNone : Type 0
RemovedOutputsOpenNone = (name : List ℕ) (t : TreeValue) (v : ConId) → windows_at v (output_removed_tree name t) ≤ windows_at v t

-- an output that goes keeps each window of a good tree, and leaves a good one
abbrev pub RemovedOutputsKeepWindows : Type 0
RemovedOutputsKeepWindows = (name : List ℕ) (t : TreeValue) → IsGood t → Holds t (output_removed_tree name t)

-- no container of an opening tree has floating windows
abbrev pub OpeningsAreTidy : Type 0
OpeningsAreTidy = (plans : List OutputPlan) (border : Border) (inner outer : ℕ) → IsTidy (opening plans border inner outer).nodes

-- in a sound tree each window is counted once, and what is no window not at all
abbrev pub WindowsAreSeen : Type 0
WindowsAreSeen = (t : TreeValue) (v : ConId) → IsSound t → windows_at v t ≡ (if is_window_of t v then 1 else 0)

-- ---- which ids may open

-- in a sound tree each placeholder is counted once, and what is no placeholder not at all
abbrev pub PlaceholdersAreSeen : Type 0
PlaceholdersAreSeen = (t : TreeValue) (v : ConId) → IsSound t → placeholders_at v t ≡ (if is_placeholder_of t v then 1 else 0)

-- after a step that lets no other id open, an id may open only if it might before
abbrev pub NoOtherMayOpen : Type 0
NoOtherMayOpen = (t new : TreeValue) (v : ConId) → IsSound t → IsSound new → OpensNoOther t new → may_open new v ≡ true → may_open t v ≡ true

-- so it is after one such step and another
abbrev pub StepsOpenNoOther : Type 0
StepsOpenNoOther = (t mid new : TreeValue) → OpensNoOther t mid → OpensNoOther mid new → OpensNoOther t new

-- what is a window opens no second time
abbrev pub WindowsMayNotOpen : Type 0
WindowsMayNotOpen = (t : TreeValue) (v : ConId) → IsSound t → is_window_of t v ≡ true → may_open t v ≡ false

-- an id that a window had may never open again
abbrev pub WindowsNeverOpenAgain : Type 0
WindowsNeverOpenAgain = (t new : TreeValue) (v : ConId) → IsSound t → IsSound new → is_window_of t v ≡ true → OpensNoOther t new → may_open new v ≡ false

-- after a text no other id may open
abbrev pub TextsOpenNoOther : Type 0
TextsOpenNoOther = (env : Env) (verdict : Verdict) (subject : Option ConId) (t : TreeValue) → OpensNoOther t (outcome env verdict subject t).tree

-- nor after settling
abbrev pub SettlingOpensNoOther : Type 0
SettlingOpensNoOther = (t : TreeValue) → OpensNoOther t (settled t)

-- nor after a window was mapped under the next id
abbrev pub MappingOpensNoOther : Type 0
MappingOpensNoOther = (who : ℕ) (props : Props) (natural : Size) (t : TreeValue) → OpensNoOther t (attached (newcomer_place t) (new.Window props who natural) t)

-- nor after a node was raised
abbrev pub RaisingOpensNoOther : Type 0
RaisingOpensNoOther = (c : ConId) (t : TreeValue) → OpensNoOther t (with_raised c t)

-- nor after any change of a node
abbrev pub EditsOpenNoOther : Type 0
EditsOpenNoOther = (c : ConId) (edit : KindEdit) (t : TreeValue) → OpensNoOther t (edited c edit t)

-- nor after a node was taken out
abbrev pub ClosingOpensNoOther : Type 0
ClosingOpensNoOther = (c : ConId) (t : TreeValue) → OpensNoOther t (detached c t)

-- nor after an output came
abbrev pub AddedOutputsOpenNoOther : Type 0
AddedOutputsOpenNoOther = (plan : OutputPlan) (t : TreeValue) → OpensNoOther t (output_added_tree plan t)

-- nor after one went
abbrev pub RemovedOutputsOpenNoOther : Type 0
RemovedOutputsOpenNoOther = (name : List ℕ) (t : TreeValue) → OpensNoOther t (output_removed_tree name t)

-- nor after a window came to its placeholder
abbrev pub SwallowingOpensNoOther : Type 0
SwallowingOpensNoOther = (props : Props) (owner : ℕ) (natural : Size) (t : TreeValue) → OpensNoOther t (swallowed props owner natural t)

-- ---- a window that comes to its placeholder

-- the placeholder that is found in a sound tree becomes the window, and nothing else comes or goes
abbrev pub SwallowingFills : Type 0
SwallowingFills = (props : Props) (owner : ℕ) (natural : Size) (t : TreeValue) (c : ConId) → IsSound t → swallower props t ≡ Some c → Fills c owner t (swallowed props owner natural t)

-- a good tree stays good
abbrev pub SwallowingStaysGood : Type 0
SwallowingStaysGood = (props : Props) (owner : ℕ) (natural : Size) (t : TreeValue) → IsGood t → IsGood (swallowed props owner natural t)

-- where none is found, the tree stays
abbrev pub SwallowingNoneStays : Type 0
SwallowingNoneStays = (props : Props) (owner : ℕ) (natural : Size) (t : TreeValue) → swallower props t ≡ None → swallowed props owner natural t ≡ t

-- its id might open before, and may not again
abbrev pub SwallowingSpendsItsId : Type 0
SwallowingSpendsItsId =
    (props : Props) (owner : ℕ) (natural : Size) (t : TreeValue) (c : ConId) → IsSound t → swallower props t ≡ Some c → (may_open t c ≡ true) × (may_open (swallowed props owner natural t) c ≡ false)
