-- What a property of trees needs to last: that each word by which trees change keeps it, where a name is given only where no other one has it.
use Rattle.std.specs.Prelude.{◌≡◌, ◌≢◌, ℕ, Bool, true, false, List, [], ◌∷◌, ◌++◌, Option, None, Some}
use Rattle.wm_base.specs.declared.geometry.Size.{Size}
use Rattle.wm_base.specs.declared.ids.ConId.{ConId}
use Rattle.wm_base.specs.declared.plan.Layout.{Layout}
use Rattle.wm_base.specs.declared.plan.OutputPlan.{OutputPlan}
use Rattle.wm_base.specs.declared.properties.Props.{Props}
use Rattle.wm_floats.specs.declared.kinds.Kind.TheVariants as kinds
use Rattle.wm_floats.specs.Floating.{IsGoal, sink_refusal, sink_tree}
use Rattle.wm_floats.specs.Fullscreen.{fullscreen_tree}
use Rattle.wm_floats.specs.Kinds.{is_of_space}
use Rattle.wm_floats.specs.Scratchpad.{put_away, put_away_refusal, to_scratchpad_refusal, to_scratchpad_tree}
use Rattle.wm_floats.specs.Windows.{state_of, window_refusal}
use Rattle.wm_focus.specs.Marks.{bare, given_mark, taken_off}
use Rattle.wm_focus.specs.Moves.{IsTurn}
use Rattle.law_lasting.specs.Changes.{KeepsState, con_at, is_calm, stows}
use Rattle.law_lasting.specs.Rects.{FitsRect, Floats, GivesShare, RectsFit}
use Rattle.wm_opens.specs.Opens.{is_window_of}
use Rattle.wm_shared.specs.Subject.{is_space}
use Rattle.wm_spaces.specs.Coming.{output_added_refusal, output_added_tree}
use Rattle.wm_spaces.specs.Names.{space_named}
use Rattle.wm_spaces.specs.Renaming.{rename_refusal, renamed_space}
use Rattle.wm_swallow.specs.Steps.{IsRoomIn}
use Rattle.wm_tree.specs.Along.{gone_along}
use Rattle.wm_forest.specs.Counts.{count}
use Rattle.wm_forest.specs.declared.kind.KindEdit.{KindEdit}
use Rattle.wm_forest.specs.declared.kind.KindEdit.TheVariants as edits
use Rattle.wm_forest.specs.declared.part.ConState.{ConState}
use Rattle.wm_forest.specs.declared.place.NewCon.{NewCon}
use Rattle.wm_forest.specs.declared.place.NewCon.TheVariants as new
use Rattle.wm_forest.specs.declared.place.Place.{Place}
use Rattle.wm_forest.specs.declared.place.Place.TheVariants.{Last}
use Rattle.wm_forest.specs.Look.{con_kind, kind_of, same}
use Rattle.wm_tree.specs.Move.{exchanged, moved, unmarked, with_marks, wrapped}
use Rattle.wm_tree.specs.Outputs.{IsOutput, space_moved, with_space, without_output}
use Rattle.wm_forest.specs.Place.{passed_limit}
use Rattle.wm_forest.specs.Recency.{lists, without_id}
use Rattle.wm_tree.specs.Sound.{IsSound}
use Rattle.wm_tree.specs.TreeValue.{TreeValue, is_tiled_con, newcomer_place}
use Rattle.wm_forest.specs.RootId.{root}
use Rattle.wm_tree.specs.Words.{attached, detached, edited, settled, with_raised}

-- P speaks of the nodes of a tree alone
abbrev pub IsOfNodes : (TreeValue → Type 0) → Type 0
IsOfNodes P = (t new : TreeValue) → new.nodes ≡ t.nodes → P t → P new

-- each word by which trees change keeps P, as commands and the other steps use it: what comes or is renamed has a name of its own
pub record Lasts (P : TreeValue → Type 0) : Type 0 where
  -- P speaks of the nodes, of the urgent windows, of the order of recency and of the next id alone
  pub alike : (t new : TreeValue) → new.nodes ≡ t.nodes → new.urgent ≡ t.urgent → new.recency ≡ t.recency → new.next_id ≡ t.next_id → P t → P new
  -- changes of one node
  pub editing : (c : ConId) (edit : KindEdit) (t : TreeValue) → is_calm edit ≡ true → GivesShare edit → P t → P (edited c edit t)
  pub renaming : (was : Option (List ℕ)) (name : List ℕ) (w : ConId) (t : TreeValue) → IsSound t → rename_refusal was name t ≡ None → renamed_space was t ≡ Some w → P t → P (edited w (edits.Name name) t)
  pub restating : (c : ConId) (old now : ConState) (t : TreeValue) → state_of c t ≡ Some old → KeepsState old now → (RectsFit t → FitsRect old.rect → FitsRect now.rect) → P t → P (edited c (edits.State now) t)
  pub filling : (c : ConId) (on : Bool) (t : TreeValue) → IsSound t → window_refusal c t ≡ None → P t → P (fullscreen_tree c on t)
  pub stripping : (c : ConId) (t : TreeValue) → P t → P (with_marks c [] t)
  pub unmarking : (c : ConId) (mark : List ℕ) (t : TreeValue) → P t → P (unmarked c mark t)
  -- marks of all nodes; a mark that is given goes off all other ones
  pub giving : (c : ConId) (mark : List ℕ) (add : Bool) (t : TreeValue) → IsSound t → P t → P (given_mark c mark add t)
  pub taking_off : (keep : Option ConId) (mark : List ℕ) (t : TreeValue) → P t → P (record t { nodes = taken_off keep mark t.nodes })
  pub baring : (t : TreeValue) → P t → P (record t { nodes = bare t.nodes })
  -- windows that become urgent, or are so no longer
  pub urging : (v : ConId) (t : TreeValue) → IsSound t → is_window_of t v ≡ true → lists v t.urgent ≡ false → P t → P (record t { urgent = t.urgent ++ v ∷ [] })
  pub calming : (v : ConId) (t : TreeValue) → P t → P (record t { urgent = without_id v t.urgent })
  -- nodes that change their places
  pub raising : (c : ConId) (t : TreeValue) → IsSound t → P t → P (with_raised c t)
  pub moving : (c : ConId) (p : Place) (t : TreeValue) → IsSound t → IsGoal c p t → stows p ≡ false → Floats c p t → IsSound (moved c p t) → P t → P (moved c p t)
  pub exchanging : (a b : ConId) (t : TreeValue) → IsSound t → IsTurn a b t → IsSound (exchanged a b t) → P t → P (exchanged a b t)
  pub space_moving : (w o : ConId) (t : TreeValue) → IsSound t → is_space t w ≡ true → IsOutput o t.nodes → IsSound (space_moved w o t) → P t → P (space_moved w o t)
  pub going_along : (v w : ConId) (t : TreeValue) → same root w ≡ false → count (con_at w) t.nodes ≡ 0 → P t → P (gone_along v w t)
  -- the scratchpad, and windows that are tiled again
  pub hiding : (c : ConId) (t : TreeValue) → IsSound t → to_scratchpad_refusal c t ≡ None → P t → P (to_scratchpad_tree c t)
  pub putting_away : (w c : ConId) (t : TreeValue) → IsSound t → is_of_space kinds.Flagged w t c ≡ true → put_away_refusal c t ≡ None → P t → P (put_away c t)
  pub sinking : (c : ConId) (t : TreeValue) → IsSound t → sink_refusal c t ≡ None → P t → P (sink_tree c t)
  -- nodes that come and go
  pub attaching : (who : ℕ) (props : Props) (natural : Size) (t : TreeValue) → IsSound t → passed_limit (newcomer_place t) t.nodes t.next_id ≡ None → P t → P (attached (newcomer_place t) (new.Window props who natural) t)
  pub joining : (p : ConId) (newcomer : NewCon) (t : TreeValue) → IsSound t → IsRoomIn p t → P t → P (attached (Last p) newcomer t)
  pub wrapping : (c : ConId) (layout : Layout) (t : TreeValue) → IsSound t → is_tiled_con t c ≡ true → IsSound (wrapped c layout t) → P t → P (wrapped c layout t)
  pub space_coming : (o : ConId) (name : List ℕ) (t : TreeValue) → IsSound t → IsOutput o t.nodes → IsSound (with_space o name t) → space_named name t ≡ None → P t → P (with_space o name t)
  pub output_coming : (plan : OutputPlan) (t : TreeValue) → IsSound t → output_added_refusal plan t ≡ None → IsSound (output_added_tree plan t) → P t → P (output_added_tree plan t)
  pub detaching : (c : ConId) (t : TreeValue) → IsSound t → kind_of con_kind c t.nodes ≢ None → P t → P (detached c t)
  pub settling : (t : TreeValue) → IsSound t → P t → P (settled t)
  pub output_going : (o : ConId) (t : TreeValue) → IsSound t → IsOutput o t.nodes → P t → P (without_output o t)
