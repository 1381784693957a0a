-- Laws of the events of two trees.
use Rattle.std.specs.Prelude.{◌≡◌, ◌≤◌, ℕ, not, if◌then◌else◌, List, [], ◌∷◌, length, map, filter, flat_map, codes}
use Rattle.std.specs.Map.{values_of}
use Rattle.std.specs.Str.{bytes_eq}
use Rattle.wm_arrange.specs.declared.parts.Placed.{Placed}
use Rattle.wm_changes.specs.Changes.{changes}
use Rattle.wm_changes.specs.Facts.{SpaceFact, WindowFact, spaces, windows}
use Rattle.wm_json.specs.declared.views.EventBody.{EventBody}
use Rattle.wm_json.specs.declared.views.EventBody.TheVariants as body
use Rattle.wm_json.specs.declared.views.NodeView.TheViews.{out-NodeView}
use Rattle.wm_tree.specs.Sound.{IsSound}
use Rattle.wm_tree.specs.TreeValue.{TreeValue}
use Rattle.wm_views.specs.Maps.{holds}

-- a tree that is as it was tells nothing
abbrev pub NothingIsToldOfNothing : Type 0
NothingIsToldOfNothing = (t : TreeValue) (a : List Placed) → changes t a t a ≡ []

-- so many events are told at most: six of each of 4,096 windows, two of each of 256 workspaces, one of each that is
-- gone, one of outputs, and two of what is focused
abbrev pub EventsAreFew : Type 0
EventsAreFew = (t : TreeValue) (a : List Placed) (u : TreeValue) (b : List Placed) → IsSound t → IsSound u → length (changes t a u b) ≤ 29443

-- ---- windows

-- the window of which an event tells the word
abbrev pub window_told : List ℕ → EventBody → List ℕ
window_told word (body.Window change view) = if bytes_eq change word then (out-NodeView view).id ∷ [] else []
window_told word event = []

-- the windows of which events tell the word
abbrev pub windows_told : List ℕ → List EventBody → List ℕ
windows_told word events = flat_map (window_told word) events

-- the windows of a tree that another one has not
abbrev pub other_windows : TreeValue → TreeValue → List ℕ
other_windows t u = map (λ (w : WindowFact). w.part.id.0) (filter (λ (w : WindowFact). not (holds (windows u) w.part.id)) (values_of (windows t)))

-- new are exactly the windows that came, by rising id
abbrev pub NewWindowsCame : Type 0
NewWindowsCame = (t : TreeValue) (a : List Placed) (u : TreeValue) (b : List Placed) → windows_told (codes "new") (changes t a u b) ≡ other_windows u t

-- closed are exactly the windows that went, by rising id
abbrev pub ClosedWindowsWent : Type 0
ClosedWindowsWent = (t : TreeValue) (a : List Placed) (u : TreeValue) (b : List Placed) → windows_told (codes "close") (changes t a u b) ≡ other_windows t u

-- ---- workspaces

-- the workspace of which an event tells the word
abbrev pub space_told : List ℕ → EventBody → List ℕ
space_told word (body.Workspace change view old) = if bytes_eq change word then (out-NodeView view).id ∷ [] else []
space_told word event = []

-- the workspaces of which events tell the word
abbrev pub spaces_told : List ℕ → List EventBody → List ℕ
spaces_told word events = flat_map (space_told word) events

-- the workspaces of a tree that another one has not
abbrev pub other_spaces : TreeValue → TreeValue → List ℕ
other_spaces t u = map (λ (s : SpaceFact). s.part.id.0) (filter (λ (s : SpaceFact). not (holds (spaces u) s.part.id)) (values_of (spaces t)))

-- begun are exactly the workspaces that came, by rising id
abbrev pub BegunSpacesCame : Type 0
BegunSpacesCame = (t : TreeValue) (a : List Placed) (u : TreeValue) (b : List Placed) → spaces_told (codes "init") (changes t a u b) ≡ other_spaces u t

-- emptied are exactly the workspaces that went, by rising id
abbrev pub EmptiedSpacesWent : Type 0
EmptiedSpacesWent = (t : TreeValue) (a : List Placed) (u : TreeValue) (b : List Placed) → spaces_told (codes "empty") (changes t a u b) ≡ other_spaces t u
