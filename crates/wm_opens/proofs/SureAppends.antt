-- A layout that is appended to the focused workspace of a sound tree, where it passes no limit, is a sure step.
use Rattle.std.proofs.Common.{◌≡◌, ◌≢◌, ℕ, Bool, true, false, cond, not, List, [], ◌∷◌, Option, None, Some, refl, arith}
use Rattle.std.specs.Prelude.{is_some}
use Rattle.std.specs.Str.{bytes_eq}
use Rattle.wm_apply.proofs.AppendLemmas.{shown_there}
use Rattle.wm_apply.specs.Layouts.{append_refusal, append_tree, if_fit, layout_named}
use Rattle.wm_base.specs.declared.errors.ErrorText.TheVariants as texts
use Rattle.wm_base.specs.declared.ids.ConId.{ConId}
use Rattle.wm_base.specs.declared.plan.Border.{Border}
use Rattle.wm_focus.specs.Marks.{give_refusal, given_mark, is_mark}
use Rattle.wm_forest.specs.Change.{is_window_kind}
use Rattle.wm_opens.proofs.AppendLemmas.{HasNoWindow, no_window}
use Rattle.wm_opens.proofs.KeptLemmas.{kept_attached}
use Rattle.wm_opens.proofs.SureCommands.{unless}
use Rattle.wm_opens.proofs.SureLemmas.{Sure, not_full, sure_edited, sure_refl, sure_trans}
use Rattle.wm_opens.proofs.SureMarks.{sure_given}
use Rattle.wm_opens.proofs.TidyLemmas.{tidy_put}
use Rattle.wm_saved.specs.declared.saved.SavedLayout.{SavedLayout}
use Rattle.wm_saved.specs.Limits.{is_fit}
use Rattle.wm_shared.proofs.KidLemmas.{con_there}
use Rattle.wm_shared.specs.Subject.{is_space}
use Rattle.wm_swallow.proofs.FitLemmas.{fit_marks}
use Rattle.wm_swallow.proofs.WholeLemmas.{whole}
use Rattle.wm_swallow.specs.Appending.{appended, come, come_marked, given_marks, state_with}
use Rattle.wm_swallow.specs.Limits.{passed_by_append}
use Rattle.wm_swallow.specs.SavedRows.{Saved, none, saved, rows}
use Rattle.wm_swallow.specs.Steps.{IsFree, IsRoomFor, IsRoomIn}
use Rattle.wm_forest.proofs.EditLemmas.{fits_state}
use Rattle.wm_forest.proofs.TimesLemmas.{times-append}
use Rattle.wm_forest.specs.declared.kind.KindEdit.TheVariants as edits
use Rattle.wm_forest.specs.declared.part.ConPart.{ConPart}
use Rattle.wm_forest.specs.declared.part.Part.{Part}
use Rattle.wm_forest.specs.declared.place.NewCon.{NewCon}
use Rattle.wm_forest.specs.declared.place.Place.TheVariants.{Last}
use Rattle.wm_forest.specs.Forest.{end, con}
use Rattle.wm_forest.specs.Look.{con_kind, first_kids, kind_of, only}
use Rattle.wm_forest.specs.Place.{new_kind, new_part, rect_at, share_at}
use Rattle.wm_forest.specs.RootId.{id}
use Rattle.wm_forest.specs.Spot.{spot_in, top}
use Rattle.wm_tree.proofs.AttachLemmas.{sound-attached}
use Rattle.wm_tree.proofs.FocusLemmas.{shown_has}
use Rattle.wm_tree.proofs.SoundLemmas.{sound-edited}
use Rattle.wm_tree.specs.Sound.{IsSound}
use Rattle.wm_tree.specs.TreeValue.{TreeValue, shown}
use Rattle.wm_tree.specs.Words.{attached}

-- ---- one container

sure_attached : (p : ConId) (newcomer : NewCon) (t : TreeValue) → is_window_kind (new_kind newcomer) ≡ false → IsSound t → IsRoomIn p t → Sure t (attached (Last p) newcomer t)
sure_attached p newcomer t h s room =
    let part : Part = new_part (id t.next_id) (share_at (Last p) t.nodes) t.border (rect_at (Last p)) newcomer in
    record {
      sound = sound-attached (Last p) newcomer t room.there room.place room.free s;
      kept = kept_attached (Last p) newcomer t h;
      again = λ v below. omega (arith, times-append v t.recency (id t.next_id ∷ []));
      tidy = tidy_put (Last p) (con part end end end) t.nodes tt (refl, tt, tt, tt);
    }

sure_come : (p : ConId) (border : Border) (newcomer : NewCon) (t : TreeValue) → is_window_kind (new_kind newcomer) ≡ false → IsSound t → IsRoomIn p t → Sure t (come p border newcomer t)
sure_come p border newcomer t h s room =
    let c : ConId = id t.next_id in
    let more : TreeValue = attached (Last p) newcomer t in
    let first : Sure t (attached (Last p) newcomer t) = sure_attached p newcomer t h s room in
    sure_trans t more (come p border newcomer t) first
    (sure_edited c (edits.State (state_with border)) more refl (sound-edited c (edits.State (state_with border)) more (fits_state (state_with border) (spot_in top c more.nodes) (first_kids (only c more.nodes))) first.sound))

there_by : (o : Option ConPart) → is_some o ≡ true → o ≢ None
there_by None h = cc
there_by (Some p) h = λ e. cc

sure_given_marks : (c : ConId) (ms : List (List ℕ)) (t : TreeValue) → IsSound t → IsRoomFor c ms t → Sure t (given_marks c ms t)
sure_given_marks c [] t s room = sure_refl t s
sure_given_marks c (m ∷ ms) t s room =
    let one : TreeValue = given_mark c m true t in
    let a = unless (is_space t c) texts.AtWorkspace _ room.1 in
    let b = unless (not (is_mark m)) texts.OutOfRange (give_refusal c m true t) a.1 in
    let first : Sure t (given_mark c m true t) = sure_given c m true t s (con_there c t.nodes (there_by (kind_of con_kind c t.nodes) room.0)) room.0 b.1 in
    sure_trans t one (given_marks c (m ∷ ms) t) first (sure_given_marks c ms one first.sound room.2)

pub sure_come_marked : (p : ConId) (border : Border) (marks : List (List ℕ)) (newcomer : NewCon) (t : TreeValue) → is_window_kind (new_kind newcomer) ≡ false → IsSound t → IsRoomIn p t
    → IsRoomFor (id t.next_id) marks (come p border newcomer t) → Sure t (come_marked p border marks newcomer t)
sure_come_marked p border marks newcomer t h s room free =
    let bare : TreeValue = come p border newcomer t in
    let comes : Sure t (come p border newcomer t) = sure_come p border newcomer t h s room in
    sure_trans t bare (come_marked p border marks newcomer t) comes (sure_given_marks (id t.next_id) marks bare comes.sound free)

-- ---- rows

pub sure_appended : (p : ConId) (row : Saved) (t : TreeValue) → HasNoWindow row → IsSound t → IsFree p row t → Sure t (appended p row t)
sure_appended p none t h s free = sure_refl t s
sure_appended p (saved border marks newcomer kids rest) t h s free =
    let c : ConId = id t.next_id in
    let first : TreeValue = come_marked p border marks newcomer t in
    let below : TreeValue = appended c kids first in
    let marked : Sure t (come_marked p border marks newcomer t) = sure_come_marked p border marks newcomer t h.0 s free.0 free.1 in
    let under : Sure (come_marked p border marks newcomer t) (appended (id t.next_id) kids (come_marked p border marks newcomer t)) = sure_appended c kids first h.1 marked.sound free.2 in
    let behind : Sure below (appended p rest below) = sure_appended p rest below h.2 under.sound free.3 in
    sure_trans t first (appended p rest below) marked (sure_trans first below (appended p rest below) under behind)

-- ---- layouts of a name

-- the layout that is found is fit
pub named_fit : (name : List ℕ) (layouts : List (List ℕ × SavedLayout)) (layout : SavedLayout) → layout_named name layouts ≡ Some layout → is_fit layout ≡ true
named_fit name [] layout h = cc
named_fit name (x ∷ layouts) layout h = by (bytes_eq x.0 name) (named_fit name layouts layout) h
  where
    fit_by : (b : Bool) → is_fit x.1 ≡ b → cond b (Some x.1) None ≡ Some layout → is_fit layout ≡ true
    fit_by true e k = let one : x.1 ≡ layout = cc in rw (← one) e
    fit_by false e k = cc

    by : (b : Bool) → (layout_named name layouts ≡ Some layout → is_fit layout ≡ true) → cond b (if_fit x.1) (layout_named name layouts) ≡ Some layout → is_fit layout ≡ true
    by true later k = fit_by (is_fit x.1) refl k
    by false later k = later k

-- appending a fit layout is free where it is not refused
pub free_append : (layout : SavedLayout) (t : TreeValue) → IsSound t → is_fit layout ≡ true → append_refusal (Some layout) t ≡ None → IsFree (shown t) (rows layout.trees) t
free_append layout t s fit h =
    whole (shown t) layout.trees t s (shown_has t s) (shown_there t (shown t) s refl) (fit_marks layout.trees fit) (not_full (passed_by_append (shown t) (rows layout.trees) t) h)

pub sure_append : (name : List ℕ) (layouts : List (List ℕ × SavedLayout)) (t : TreeValue) → IsSound t → append_refusal (layout_named name layouts) t ≡ None → Sure t (append_tree (layout_named name layouts) t)
sure_append name layouts t s h = by (layout_named name layouts) refl h
  where
    by : (o : Option SavedLayout) → layout_named name layouts ≡ o → append_refusal o t ≡ None → Sure t (append_tree o t)
    by None e k = cc
    by (Some layout) e k = sure_appended (shown t) (rows layout.trees) t (no_window layout.trees) s (free_append layout t s (named_fit name layouts layout e) k)
