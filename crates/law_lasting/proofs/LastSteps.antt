-- The steps that are no texts keep what lasts: windows that are mapped and closed, changes of nodes, outputs that come and go.
use Rattle.std.proofs.Common.{◌≡◌, ◌≢◌, ℕ, Bool, true, false, cond, List, [], ◌∷◌, ◌++◌, Option, None, Some, refl}
use Rattle.wm_base.specs.declared.geometry.Edges.{Edges}
use Rattle.wm_base.specs.declared.geometry.Size.{Size}
use Rattle.wm_base.specs.declared.ids.ConId.{ConId}
use Rattle.wm_base.specs.declared.plan.OutputPlan.{OutputPlan}
use Rattle.wm_base.specs.declared.properties.Props.{Props}
use Rattle.law_lasting.proofs.LastSpaces.{last_output}
use Rattle.law_lasting.proofs.LastTexts.{HasLast, has_settled}
use Rattle.law_lasting.specs.Lasting.{IsOfNodes, Lasts}
use Rattle.wm_opens.specs.Opens.{is_window_of}
use Rattle.wm_forest.specs.Recency.{lists, without_id}
use Rattle.wm_opens.proofs.SureSpaces.{fits_all}
use Rattle.wm_shared.proofs.ShowLemmas.{sound_output}
use Rattle.wm_shared.specs.Showing.{output_focused}
use Rattle.wm_spaces.proofs.ComingLemmas.{heir_output, named_output, still_output}
use Rattle.wm_spaces.specs.Coming.{left_output, output_added_refusal, output_added_tree, output_gone, output_gone_some, output_removed_tree}
use Rattle.wm_spaces.specs.Names.{output_named}
use Rattle.wm_swallow.specs.Swallowing.{filled_at, swallowed, swallower}
use Rattle.wm_forest.proofs.EditLemmas.{fits_fill}
use Rattle.wm_tree.proofs.AttachLemmas.{sound-attached}
use Rattle.wm_tree.proofs.OutputLemmas.{sound-without_output}
use Rattle.wm_tree.proofs.PlaceLemmas.{place_fits}
use Rattle.wm_tree.proofs.RaiseLemmas.{sound-raised}
use Rattle.wm_tree.proofs.SoundLemmas.{sound-detached, sound-edited}
use Rattle.wm_forest.specs.declared.kind.KindEdit.TheVariants as edits
use Rattle.wm_forest.specs.declared.place.NewCon.TheVariants as new
use Rattle.wm_forest.specs.Look.{con_kind, first_kids, kind_of, only, same}
use Rattle.wm_tree.specs.Outputs.{IsOutput}
use Rattle.wm_forest.specs.Taking.{heir}
use Rattle.wm_forest.specs.Place.{passed_limit}
use Rattle.wm_tree.specs.Sound.{IsSound}
use Rattle.wm_forest.specs.Spot.{spot_in, top}
use Rattle.wm_tree.specs.TreeValue.{TreeValue, current, newcomer_place}
use Rattle.wm_tree.specs.Words.{attached, detached, edited, settled, with_raised}

-- a sound tree is so whatever is urgent
sound_urgent : (urgent : List ConId) (t : TreeValue) → IsSound t → IsSound (record t { urgent = urgent })
sound_urgent urgent t s = record { shaped = s.shaped; rooted = s.rooted; once = s.once; fresh = s.fresh; low = s.low; above = s.above; known = s.known; few = s.few; few_spaces = s.few_spaces; few_marks = s.few_marks; ids = s.ids }

-- other windows are urgent, where only the nodes are spoken of
pub has_urgent : {P : TreeValue → Type 0} → IsOfNodes P → (urgent : List ConId) (t : TreeValue) → HasLast P t → HasLast P (record t { urgent = urgent })
has_urgent alone urgent t g = record { sound = sound_urgent urgent t g.sound; held = alone t (record t { urgent = urgent }) refl g.held }

module _ {P : TreeValue → Type 0} (k : Lasts P) where
  -- ---- changes of nodes

  pub has_raised : (c : ConId) (t : TreeValue) → HasLast P t → HasLast P (with_raised c t)
  has_raised c t g = record { sound = sound-raised c t g.sound; held = k.raising c t g.sound g.held }

  pub has_titled : (c : ConId) (title : List ℕ) (t : TreeValue) → HasLast P t → HasLast P (edited c (edits.Title title) t)
  has_titled c title t g = record {
    sound = sound-edited c (edits.Title title) t (fits_all (edits.Title title) (λ b kids. tt) (spot_in top c t.nodes) (first_kids (only c t.nodes))) g.sound;
    held = k.editing c (edits.Title title) t refl tt g.held;
  }

  pub has_reserved : (o : ConId) (edges : Edges) (t : TreeValue) → HasLast P t → HasLast P (edited o (edits.Reserved edges) t)
  has_reserved o edges t g = record {
    sound = sound-edited o (edits.Reserved edges) t (fits_all (edits.Reserved edges) (λ b kids. tt) (spot_in top o t.nodes) (first_kids (only o t.nodes))) g.sound;
    held = k.editing o (edits.Reserved edges) t refl tt g.held;
  }

  -- a window becomes urgent, where it is not so yet
  pub has_urged : (v : ConId) (t : TreeValue) → HasLast P t → is_window_of t v ≡ true → lists v t.urgent ≡ false → HasLast P (record t { urgent = t.urgent ++ v ∷ [] })
  has_urged v t g win new = record { sound = sound_urgent (t.urgent ++ v ∷ []) t g.sound; held = k.urging v t g.sound win new g.held }

  -- and one is so no longer
  pub has_calmed : (v : ConId) (t : TreeValue) → HasLast P t → HasLast P (record t { urgent = without_id v t.urgent })
  has_calmed v t g = record { sound = sound_urgent (without_id v t.urgent) t g.sound; held = k.calming v t g.held }

  -- ---- windows that are mapped and closed

  pub has_attached : (who : ℕ) (props : Props) (natural : Size) (t : TreeValue) → HasLast P t → passed_limit (newcomer_place t) t.nodes t.next_id ≡ None → HasLast P (attached (newcomer_place t) (new.Window props who natural) t)
  has_attached who props natural t g fits =
      let fit = place_fits t g.sound in
      record { sound = sound-attached (newcomer_place t) (new.Window props who natural) t fit.0 fit.1 fits g.sound; held = k.attaching who props natural t g.sound fits g.held }

  -- a node that is raised, or not
  has_raised_if : (b : Bool) (c : ConId) (t : TreeValue) → HasLast P t → HasLast P (cond b (with_raised c t) t)
  has_raised_if true c t g = has_raised c t g
  has_raised_if false c t g = g

  -- a new window, which is raised or not, and then settling
  pub has_mapped : (who : ℕ) (props : Props) (natural : Size) (raises : Bool) (c : ConId) (t : TreeValue) → HasLast P t → passed_limit (newcomer_place t) t.nodes t.next_id ≡ None
      → HasLast P (settled (cond raises (with_raised c (attached (newcomer_place t) (new.Window props who natural) t)) (attached (newcomer_place t) (new.Window props who natural) t)))
  has_mapped who props natural raises c t g fits =
      let there : TreeValue = attached (newcomer_place t) (new.Window props who natural) t in
      has_settled k (cond raises (with_raised c there) there) (has_raised_if raises c there (has_attached who props natural t g fits))

  -- a window that comes to its placeholder
  has_filled : (o : Option ConId) (props : Props) (owner : ℕ) (natural : Size) (t : TreeValue) → HasLast P t → HasLast P (filled_at o props owner natural t)
  has_filled None props owner natural t g = g
  has_filled (Some c) props owner natural t g = record {
    sound = sound-edited c (edits.Fill props owner natural) t (fits_fill props owner natural (spot_in top c t.nodes) (first_kids (only c t.nodes))) g.sound;
    held = k.editing c (edits.Fill props owner natural) t refl tt g.held;
  }

  -- and is raised or not, and then settling
  pub has_swallowed : (props : Props) (owner : ℕ) (natural : Size) (raises : Bool) (c : ConId) (t : TreeValue) → HasLast P t
      → HasLast P (settled (cond raises (with_raised c (swallowed props owner natural t)) (swallowed props owner natural t)))
  has_swallowed props owner natural raises c t g =
      let there : TreeValue = swallowed props owner natural t in
      has_settled k (cond raises (with_raised c there) there) (has_raised_if raises c there (has_filled (swallower props t) props owner natural t g))

  pub has_detached : (c : ConId) (t : TreeValue) → HasLast P t → kind_of con_kind c t.nodes ≢ None → HasLast P (detached c t)
  has_detached c t g ok = record { sound = sound-detached c t ok g.sound; held = k.detaching c t g.sound ok g.held }

  pub has_closed : (c : ConId) (t : TreeValue) → HasLast P t → kind_of con_kind c t.nodes ≢ None → HasLast P (settled (detached c t))
  has_closed c t g ok = has_settled k (detached c t) (has_detached c t g ok)

  -- ---- outputs that come and go

  pub has_added : (plan : OutputPlan) (t : TreeValue) → HasLast P t → output_added_refusal plan t ≡ None → IsSound (output_added_tree plan t) → HasLast P (output_added_tree plan t)
  has_added plan t g fine s = record { sound = s; held = k.output_coming plan t g.sound fine s g.held }

  has_left : (o h : ConId) (t : TreeValue) → HasLast P t → IsOutput h t.nodes → HasLast P (left_output o h t)
  has_left o h t g out = step (same (current t) o)
    where
      step : (b : Bool) → HasLast P (cond b (output_focused h t) t)
      step true = record { sound = sound_output h t out g.sound; held = last_output k h t g.held }
      step false = g

  has_gone : (h : Option ConId) (o : ConId) (t : TreeValue) → heir o t.nodes ≡ h → HasLast P t → IsOutput o t.nodes → HasLast P (output_gone h o t)
  has_gone None o t e g out = g
  has_gone (Some h) o t e g out =
      let left : TreeValue = left_output o h t in
      let first : HasLast P (left_output o h t) = has_left o h t g (heir_output o h t e) in
      let still : IsOutput o (left_output o h t).nodes = still_output o h t g.sound out in
      record { sound = sound-without_output o left still first.sound; held = k.output_going o left first.sound still first.held }

  has_gone_some : (name : List ℕ) (o : Option ConId) (t : TreeValue) → output_named name t ≡ o → HasLast P t → HasLast P (output_gone_some o t)
  has_gone_some name None t e g = g
  has_gone_some name (Some o) t e g = has_gone (heir o t.nodes) o t refl g (named_output name o t e)

  pub has_removed : (name : List ℕ) (t : TreeValue) → HasLast P t → HasLast P (output_removed_tree name t)
  has_removed name t g = has_gone_some name (output_named name t) t refl g
