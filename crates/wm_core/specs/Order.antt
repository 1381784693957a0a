-- Laws of order: what a look tells is in order, and is all there is.
use Rattle.std.specs.Prelude.{◌≡◌, ℕ, if◌then◌else◌, List}
use Rattle.std.specs.List.{count_by}
use Rattle.std.specs.List.Sorted.{IsNonDecreasingBy, IsSortedBy}
use Rattle.std.specs.Str.{bytes_eq}
use Rattle.wm_base.specs.declared.ids.ConId.{ConId}
use Rattle.wm_forest.specs.Counts.{count}
use Rattle.wm_tree.specs.Sound.{IsSound}
use Rattle.wm_forest.specs.SoundRow.{times}
use Rattle.wm_tree.specs.TreeValue.{TreeValue}
use Rattle.wm_forest.specs.declared.part.Part.{Part}
use Rattle.wm_history.specs.Look.{is_before, marks_in_order}
use Rattle.wm_history.specs.Windows.{is_window, owned_in_order}

-- how often a node has the mark m
abbrev pub mark_times : List ℕ → Part → ℕ
mark_times m p = count_by (bytes_eq m) p.marks

-- none of the marks stands before the one in front of it
abbrev pub MarksRise : Type 0
MarksRise = (t : TreeValue) → IsSortedBy is_before (marks_in_order t)

-- each mark is there as often as on the nodes of the tree
abbrev pub MarksAreAll : Type 0
MarksAreAll = (t : TreeValue) (m : List ℕ) → count_by (bytes_eq m) (marks_in_order t) ≡ count (mark_times m) t.nodes

-- none of the caller's windows has a lower id than one in front of it
abbrev pub WindowsRise : Type 0
WindowsRise = (who : ℕ) (t : TreeValue) → IsNonDecreasingBy (λ (v : ConId). v.0) (owned_in_order who t)

-- a window of the caller is there as often as in the order of recency, and nothing else is there
abbrev pub WindowsAreAll : Type 0
WindowsAreAll = (who : ℕ) (t : TreeValue) (v : ConId) → times v (owned_in_order who t) ≡ (if is_window t who v then times v t.recency else 0)

-- in a sound tree each window of the caller is there once
abbrev pub WindowsAreOnce : Type 0
WindowsAreOnce = (who : ℕ) (t : TreeValue) (v : ConId) → IsSound t → times v (owned_in_order who t) ≡ (if is_window t who v then 1 else 0)
