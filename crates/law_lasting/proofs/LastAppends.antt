-- A layout that is appended keeps what lasts.
use Rattle.std.proofs.Common.{◌≡◌, ◌≢◌, ℕ, Bool, true, false, cond, ◌||◌, not, List, [], ◌∷◌, Option, None, Some, refl, ap, arith}
use Rattle.std.specs.Prelude.{is_some}
use Rattle.wm_base.specs.declared.errors.ErrorText.TheVariants as texts
use Rattle.wm_opens.proofs.SureCommands.{unless}
use Rattle.wm_opens.proofs.SureMarks.{sure_given}
use Rattle.wm_shared.proofs.KidLemmas.{con_there}
use Rattle.wm_shared.specs.Subject.{is_container, is_space}
use Rattle.wm_tree.proofs.AttachLemmas.{sound-attached}
use Rattle.wm_tree.proofs.SoundLemmas.{sound-edited}
use Rattle.wm_forest.proofs.EditLemmas.{fits_state}
use Rattle.wm_forest.specs.declared.kind.KindEdit.TheVariants as edits
use Rattle.wm_forest.specs.Spot.{spot_in, top}
use Rattle.std.specs.Option.{option_map}
use Rattle.wm_apply.specs.Layouts.{append_refusal, append_tree, layout_named}
use Rattle.wm_base.specs.declared.ids.ConId.{ConId}
use Rattle.wm_base.specs.declared.plan.Border.{Border}
use Rattle.wm_floats.specs.Windows.{state_of}
use Rattle.wm_focus.specs.Marks.{give_refusal, given_mark, is_mark, mark_refusal}
use Rattle.law_lasting.specs.Lasting.{Lasts}
use Rattle.wm_opens.proofs.AppendLemmas.{HasNoWindow, no_window}
use Rattle.wm_opens.proofs.SureAppends.{free_append, named_fit, sure_appended, sure_come_marked}
use Rattle.wm_opens.proofs.SureLemmas.{Sure}
use Rattle.wm_saved.specs.declared.saved.SavedLayout.{SavedLayout}
use Rattle.wm_swallow.proofs.GrowLemmas.{grown, has_new}
use Rattle.wm_swallow.proofs.HeldLemmas.{absent}
use Rattle.wm_swallow.specs.Appending.{appended, come, come_marked, given_marks, state_with}
use Rattle.wm_swallow.specs.SavedRows.{Saved, none, saved, rows}
use Rattle.wm_swallow.specs.Steps.{IsFree, IsRoomFor, IsRoomIn}
use Rattle.wm_forest.proofs.RecencyLemmas.{same_self}
use Rattle.wm_forest.specs.Change.{append}
use Rattle.wm_forest.specs.declared.part.ConPart.{ConPart}
use Rattle.wm_forest.specs.declared.part.Part.{Part}
use Rattle.wm_forest.specs.declared.place.NewCon.{NewCon}
use Rattle.wm_forest.specs.declared.place.Place.TheVariants.{Last}
use Rattle.wm_forest.specs.Forest.{Forest, end, con}
use Rattle.wm_forest.specs.Look.{con_kind, first_kids, first_part, has, kind_by, kind_of, only, same}
use Rattle.wm_forest.specs.Place.{new_part, rect_at, share_at}
use Rattle.wm_forest.specs.RootId.{id}
use Rattle.wm_tree.specs.Sound.{IsSound}
use Rattle.wm_tree.specs.TreeValue.{TreeValue, shown}
use Rattle.wm_tree.specs.Words.{attached}

-- ---- a container that came is found as it came

none_of : (a k l r : Bool) → (a || k || l || r) ≡ false → (a ≡ false) × (k ≡ false) × (l ≡ false) × (r ≡ false)
none_of false false false false h = (refl, refl, refl, refl)
none_of false false false true h = cc
none_of false false true r h = cc
none_of false true l r h = cc
none_of true k l r h = cc

module _ (p : ConId) (new : Part) where
  abbrev IsNew : Forest → Type 0
  IsNew f = first_part (only new.id f) ≡ Some new

  abbrev one_more : Forest → Forest
  one_more row = append row (con new end end end)

  behind_there : (a k l r : Bool) → r ≡ true → (a || k || l || r) ≡ true
  behind_there true k l r h = refl
  behind_there false true l r h = refl
  behind_there false false true r h = refl
  behind_there false false false r h = h

  has_more : (f : Forest) → has new.id (one_more f) ≡ true
  has_more end = rw (same_self new.id new.id refl) refl
  has_more (con part kids floats rest) = behind_there (same part.id new.id) (has new.id kids) (has new.id floats) (has new.id (one_more rest)) (has_more rest)

  more_new : (f : Forest) → has new.id f ≡ false → IsNew (one_more f)
  more_new end h = rw (same_self new.id new.id refl) refl
  more_new (con part kids floats rest) h = let o = none_of (same part.id new.id) (has new.id kids) (has new.id floats) (has new.id rest) h in rw (o.0, o.1, o.2) (more_new rest o.3)

  part_new : (f : Forest) → has new.id f ≡ false → has p f ≡ true → IsNew (grown p new f)
  part_new end old h = cc
  part_new (con part kids floats rest) old h =
      let o = none_of (same part.id new.id) (has new.id kids) (has new.id floats) (has new.id rest) old in
      by (same part.id p) (has p kids) (has p floats) refl refl refl o (part_new kids o.1) (part_new floats o.2) (part_new rest o.3) h
    where
      by : (a k l : Bool) → same part.id p ≡ a → has p kids ≡ k → has p floats ≡ l → (same part.id new.id ≡ false) × (has new.id kids ≡ false) × (has new.id floats ≡ false) × (has new.id rest ≡ false)
          → (has p kids ≡ true → IsNew (grown p new kids)) → (has p floats ≡ true → IsNew (grown p new floats)) → (has p rest ≡ true → IsNew (grown p new rest)) → (a || k || l || has p rest) ≡ true
          → IsNew (cond a (con part (one_more kids) floats rest) (cond k (con part (grown p new kids) floats rest) (cond l (con part kids (grown p new floats) rest) (con part kids floats (grown p new rest)))))
      by true k l ea ek el o x y z h = rw (o.0, has_more kids) (more_new kids o.1)
      by false true l ea ek el o x y z h = rw (o.0, has_new p new kids ek) (x ek)
      by false false true ea ek el o x y z h = rw (o.0, o.1, has_new p new floats el) (y el)
      by false false false ea ek el o x y z h = rw (o.0, o.1, o.2) (z h)

-- its state is a new one, with the default border
state_new : (p : ConId) (newcomer : NewCon) (t : TreeValue) → IsSound t → has p t.nodes ≡ true → state_of (id t.next_id) (attached (Last p) newcomer t) ≡ Some (state_with t.border)
state_new p newcomer t s there =
    let part : Part = new_part (id t.next_id) (share_at (Last p) t.nodes) t.border (rect_at (Last p)) newcomer in
    ap (λ o. option_map (λ (q : ConPart). q.state) (kind_by con_kind o)) (part_new p part t.nodes (absent (id t.next_id) t.nodes (s.fresh (id t.next_id) (omega arith))) there)

-- ---- each step leaves a sound tree

sound_come : (p : ConId) (border : Border) (newcomer : NewCon) (t : TreeValue) → IsSound t → IsRoomIn p t → IsSound (come p border newcomer t)
sound_come p border newcomer t s room =
    let c : ConId = id t.next_id in
    let more : TreeValue = attached (Last p) newcomer t in
    let came : IsSound (attached (Last p) newcomer t) = sound-attached (Last p) newcomer t room.there room.place room.free s in
    sound-edited c (edits.State (state_with border)) more (fits_state (state_with border) (spot_in top c more.nodes) (first_kids (only c more.nodes))) came

there_by : (o : Option ConPart) → is_some o ≡ true → o ≢ None
there_by None h = cc
there_by (Some p) h = λ e. cc

sound_given : (c : ConId) (m : List ℕ) (t : TreeValue) → IsSound t → is_container t c ≡ true → mark_refusal c m true false t ≡ None → IsSound (given_mark c m true t)
sound_given c m t s is fits =
    let a = unless (is_space t c) texts.AtWorkspace _ fits in
    let b = unless (not (is_mark m)) texts.OutOfRange (give_refusal c m true t) a.1 in
    (sure_given c m true t s (con_there c t.nodes (there_by (kind_of con_kind c t.nodes) is)) is b.1).sound

-- ---- each step keeps it

module _ {P : TreeValue → Type 0} (k : Lasts P) where
  last_come : (p : ConId) (border : Border) (newcomer : NewCon) (t : TreeValue) → IsSound t → IsRoomIn p t → P t → P (come p border newcomer t)
  last_come p border newcomer t s room q =
      k.restating (id t.next_id) (state_with t.border) (state_with border) (attached (Last p) newcomer t) (state_new p newcomer t s room.there) (refl, refl, λ h. h) (λ r h. tt) (k.joining p newcomer t s room q)

  last_given_marks : (c : ConId) (ms : List (List ℕ)) (t : TreeValue) → IsSound t → IsRoomFor c ms t → P t → P (given_marks c ms t)
  last_given_marks c [] t s room q = q
  last_given_marks c (m ∷ ms) t s room q = last_given_marks c ms (given_mark c m true t) (sound_given c m t s room.0 room.1) room.2 (k.giving c m true t s q)

  last_appended : (p : ConId) (row : Saved) (t : TreeValue) → HasNoWindow row → IsSound t → IsFree p row t → P t → P (appended p row t)
  last_appended p none t h s free q = q
  last_appended p (saved border marks newcomer kids rest) t h s free q =
      let c : ConId = id t.next_id in
      let bare : TreeValue = come p border newcomer t in
      let first : TreeValue = come_marked p border marks newcomer t in
      let marked : Sure t (come_marked p border marks newcomer t) = sure_come_marked p border marks newcomer t h.0 s free.0 free.1 in
      let under : Sure first (appended c kids first) = sure_appended c kids first h.1 marked.sound free.2 in
      last_appended p rest (appended c kids first) h.2 under.sound free.3
      (last_appended c kids first h.1 marked.sound free.2 (last_given_marks c marks bare (sound_come p border newcomer t s free.0) free.1 (last_come p border newcomer t s free.0 q)))

  pub last_append : (name : List ℕ) (layouts : List (List ℕ × SavedLayout)) (t : TreeValue) → IsSound t → append_refusal (layout_named name layouts) t ≡ None → P t → P (append_tree (layout_named name layouts) t)
  last_append name layouts t s h q = by (layout_named name layouts) refl h
    where
      by : (o : Option SavedLayout) → layout_named name layouts ≡ o → append_refusal o t ≡ None → P (append_tree o t)
      by None e f = q
      by (Some layout) e f = last_appended (shown t) (rows layout.trees) t (no_window layout.trees) s (free_append layout t s (named_fit name layouts layout e) f) q
