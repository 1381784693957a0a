-- A layout that is appended makes no window.
use Rattle.std.proofs.Common.{◌≡◌, ℕ, true, false, List, [], ◌∷◌, Option, None, Some, refl}
use Rattle.wm_apply.specs.Layouts.{append_tree}
use Rattle.wm_base.specs.declared.ids.ConId.{ConId}
use Rattle.wm_base.specs.declared.plan.Border.{Border}
use Rattle.wm_focus.specs.Marks.{given_mark}
use Rattle.wm_forest.specs.Change.{is_window_kind}
use Rattle.wm_opens.proofs.KeptLemmas.{Kept, kept_attached, kept_edited, kept_given, kept_refl, kept_trans}
use Rattle.wm_saved.specs.declared.saved.SavedKind.{SavedKind, Split', Placeholder, Row_of-SavedNode, end_of-SavedNode, more_of-SavedNode}
use Rattle.wm_saved.specs.declared.saved.SavedLayout.{SavedLayout}
use Rattle.wm_saved.specs.declared.saved.SavedNode.{SavedNode}
use Rattle.wm_swallow.specs.Appending.{appended, come, come_marked, given_marks, state_with}
use Rattle.wm_swallow.specs.SavedRows.{Saved, none, saved, newcomer, row_below, row_of, rows}
use Rattle.wm_forest.specs.declared.kind.KindEdit.TheVariants as edits
use Rattle.wm_forest.specs.declared.place.NewCon.{NewCon}
use Rattle.wm_forest.specs.declared.place.Place.TheVariants.{Last}
use Rattle.wm_forest.specs.Place.{new_kind}
use Rattle.wm_forest.specs.RootId.{id}
use Rattle.wm_tree.specs.TreeValue.{TreeValue, shown}
use Rattle.wm_tree.specs.Words.{attached}

-- ---- rows of saved containers

-- no window comes for any of them
abbrev pub HasNoWindow : Saved → Type 0
HasNoWindow none = Unit {0}
HasNoWindow (saved border marks newcomer kids rest) = (is_window_kind (new_kind newcomer) ≡ false) × HasNoWindow kids × HasNoWindow rest

mutual
  none_below : (kind : SavedKind) → (is_window_kind (new_kind (newcomer kind)) ≡ false) × HasNoWindow (row_below kind)
  none_below (Split' layout _ nodes) = (refl, none_of nodes)
  none_below (Placeholder name swallows) = (refl, tt)

  none_of : {n : _} (nodes : Row_of-SavedNode n) → HasNoWindow (row_of nodes)
  none_of end_of-SavedNode = tt
  none_of (more_of-SavedNode border marks kind rest) = let b = none_below kind in (b.0, b.1, none_of rest)

-- those of a layout are splits and placeholders
pub no_window : (nodes : List SavedNode) → HasNoWindow (rows nodes)
no_window [] = tt
no_window (n ∷ ns) = let b = none_below n.kind in (b.0, b.1, no_window ns)

-- ---- no measure rises

kept_come : (p : ConId) (border : Border) (newcomer : NewCon) (t : TreeValue) → is_window_kind (new_kind newcomer) ≡ false → Kept t (come p border newcomer t)
kept_come p border newcomer t h =
    let more : TreeValue = attached (Last p) newcomer t in
    kept_trans t more (come p border newcomer t) (kept_attached (Last p) newcomer t h) (kept_edited (id t.next_id) (edits.State (state_with border)) more refl)

kept_given_marks : (c : ConId) (ms : List (List ℕ)) (t : TreeValue) → Kept t (given_marks c ms t)
kept_given_marks c [] t = kept_refl t
kept_given_marks c (m ∷ ms) t =
    let one : TreeValue = given_mark c m true t in
    kept_trans t one (given_marks c (m ∷ ms) t) (kept_given c m true t) (kept_given_marks c ms one)

pub kept_come_marked : (p : ConId) (border : Border) (marks : List (List ℕ)) (newcomer : NewCon) (t : TreeValue) → is_window_kind (new_kind newcomer) ≡ false → Kept t (come_marked p border marks newcomer t)
kept_come_marked p border marks newcomer t h =
    let bare : TreeValue = come p border newcomer t in
    kept_trans t bare (come_marked p border marks newcomer t) (kept_come p border newcomer t h) (kept_given_marks (id t.next_id) marks bare)

pub kept_appended : (p : ConId) (row : Saved) (t : TreeValue) → HasNoWindow row → Kept t (appended p row t)
kept_appended p none t h = kept_refl t
kept_appended p (saved border marks newcomer kids rest) t h =
    let first : TreeValue = come_marked p border marks newcomer t in
    let below : TreeValue = appended (id t.next_id) kids first in
    kept_trans t first (appended p (saved border marks newcomer kids rest) t) (kept_come_marked p border marks newcomer t h.0)
    (kept_trans first below (appended p rest below) (kept_appended (id t.next_id) kids first h.1) (kept_appended p rest below h.2))

pub kept_append : (layout : Option SavedLayout) (t : TreeValue) → Kept t (append_tree layout t)
kept_append None t = kept_refl t
kept_append (Some layout) t = kept_appended (shown t) (rows layout.trees) t (no_window layout.trees)
