-- The windows and the workspaces of a tree, each as it stands there, by rising id.
use Rattle.std.specs.Prelude.{◌≤◌, ℕ, true, false, List, [], ◌∷◌, ◌++◌, Option, None, Some}
use Rattle.std.specs.BTreeMap.{insert_entry}
use Rattle.std.specs.Ordering.{nat_cmp}
use Rattle.wm_base.specs.declared.ids.ConId.{ConId}
use Rattle.wm_changes.specs.declared.standing.Standing.{Standing}
use Rattle.wm_forest.specs.declared.part.ConKind.{ConKind}
use Rattle.wm_forest.specs.declared.part.ConKind.TheVariants.{Split, Window, Placeholder}
use Rattle.wm_forest.specs.declared.part.ConPart.{ConPart}
use Rattle.wm_forest.specs.declared.part.OutputPart.{OutputPart}
use Rattle.wm_forest.specs.declared.part.Part.{Part}
use Rattle.wm_forest.specs.declared.part.SpacePart.{SpacePart}
use Rattle.wm_forest.specs.Counts.{row_length, share_of, share_sum}
use Rattle.wm_forest.specs.Focus.{tiled_by}
use Rattle.wm_forest.specs.Forest.{Forest, end, con}
use Rattle.wm_forest.specs.Look.{con_kind, first_kids, output_kind, space_kind}
use Rattle.wm_forest.specs.Spot.{holder_by, space_at}
use Rattle.wm_tree.specs.TreeValue.{TreeValue}

-- ---- one window, one workspace

-- a window: its part, what it says of itself as a container, and where it stands
pub record WindowFact : Type 0 where
  pub part : Part
  pub state : ConPart
  pub standing : Standing

-- a workspace: its part, what it says of itself, the output that has it, and what is below it
pub record SpaceFact : Type 0 where
  pub part : Part
  pub state : SpacePart
  pub output_id : ConId
  pub output : OutputPart
  pub kids : Forest
  pub floats : Forest

-- ---- where nodes stand

-- the row of the root: nothing holds it, and it is no row of children
abbrev pub top : Standing
top = record { holder = None; space = None; shares = 0; floating = true }

-- the children of a node
abbrev pub kid_standing : Standing → Part → Forest → Standing
kid_standing above part kids = record { holder = holder_by true part.id part.kind; space = space_at above.space part; shares = share_sum (tiled_by part.kind kids); floating = false }

-- the floating windows of a node, or those of the scratchpad
abbrev pub float_standing : Standing → Part → Standing
float_standing above part = record { holder = holder_by false part.id part.kind; space = space_at above.space part; shares = 0; floating = true }

-- the shares of each row have a sum that a number of 32 bits can be
abbrev pub IsNarrow : Forest → Type 0
IsNarrow end = Unit {0}
IsNarrow (con part kids floats rest) = (row_length kids ≤ 256) × (share_of part.kind ≤ 1048576) × IsNarrow kids × IsNarrow floats × IsNarrow rest

-- ---- all windows

-- a container, where it is a window
abbrev pub window_by : Standing → Part → ConPart → ConKind → List WindowFact
window_by s part c (Split layout last) = []
window_by s part c (Window props owner natural) = record { part = part; state = c; standing = s } ∷ []
window_by s part c (Placeholder props swallows) = []

-- a node, where it is a window
abbrev pub window_here : Standing → Part → Option ConPart → List WindowFact
window_here s part None = []
window_here s part (Some c) = window_by s part c c.kind

-- the windows of a row and of what is below it
abbrev pub windows_in : Standing → Forest → List WindowFact
windows_in s end = []
windows_in s (con part kids floats rest) =
    window_here s part (con_kind part.kind) ++ windows_in (kid_standing s part kids) kids ++ windows_in (float_standing s part) floats ++ windows_in s rest

-- ---- all workspaces

-- a node on an output, where it is a workspace
abbrev pub space_here : ConId → OutputPart → Part → Option SpacePart → Forest → Forest → List SpaceFact
space_here id o part None kids floats = []
space_here id o part (Some s) kids floats = record { part = part; state = s; output_id = id; output = o; kids = kids; floats = floats } ∷ []

-- the workspaces of an output
abbrev pub spaces_on : ConId → OutputPart → Forest → List SpaceFact
spaces_on id o end = []
spaces_on id o (con part kids floats rest) = space_here id o part (space_kind part.kind) kids floats ++ spaces_on id o rest

abbrev pub spaces_of : ConId → Option OutputPart → Forest → List SpaceFact
spaces_of id None spaces = []
spaces_of id (Some o) spaces = spaces_on id o spaces

-- the workspaces on a row of outputs
abbrev pub spaces_in : Forest → List SpaceFact
spaces_in end = []
spaces_in (con part kids floats rest) = spaces_of part.id (output_kind part.kind) kids ++ spaces_in rest

-- ---- by rising id

-- those of a list put in under their ids, one after another
abbrev pub put_windows : List WindowFact → List (ℕ × WindowFact) → List (ℕ × WindowFact)
put_windows [] done = done
put_windows (w ∷ ws) done = put_windows ws (insert_entry nat_cmp done w.part.id.0 w)

abbrev pub put_spaces : List SpaceFact → List (ℕ × SpaceFact) → List (ℕ × SpaceFact)
put_spaces [] done = done
put_spaces (s ∷ ss) done = put_spaces ss (insert_entry nat_cmp done s.part.id.0 s)

-- the windows of a tree, those of the scratchpad among them, each under its id
abbrev pub windows : TreeValue → List (ℕ × WindowFact)
windows t = put_windows (windows_in top t.nodes) []

-- the workspaces of a tree, each under its id
abbrev pub spaces : TreeValue → List (ℕ × SpaceFact)
spaces t = put_spaces (spaces_in (first_kids t.nodes)) []
