-- A saved layout that is appended to a workspace: the tree afterwards.
use Rattle.std.specs.Prelude.{ℕ, true, false, List, [], ◌∷◌, None}
use Rattle.wm_base.specs.declared.ids.ConId.{ConId}
use Rattle.wm_base.specs.declared.plan.Border.{Border}
use Rattle.wm_focus.specs.Marks.{given_mark}
use Rattle.wm_forest.specs.declared.kind.KindEdit.TheVariants as edits
use Rattle.wm_forest.specs.declared.part.ConState.{ConState}
use Rattle.wm_forest.specs.declared.place.NewCon.{NewCon}
use Rattle.wm_forest.specs.declared.place.Place.TheVariants.{Last}
use Rattle.wm_forest.specs.RootId.{id}
use Rattle.wm_swallow.specs.SavedRows.{Saved, none, saved}
use Rattle.wm_tree.specs.TreeValue.{TreeValue}
use Rattle.wm_tree.specs.Words.{attached, edited}

-- a new container's state, with this border
abbrev pub state_with : Border → ConState
state_with border = record { border = border; sticky = false; fullscreen = false; flagged = false; rect = None }

-- the container c with this border, and else as new
abbrev pub bordered : ConId → Border → TreeValue → TreeValue
bordered c border t = edited c (edits.State (state_with border)) t

-- c has these marks too, given one after the other; a mark held elsewhere moves
abbrev pub given_marks : ConId → List (List ℕ) → TreeValue → TreeValue
given_marks c [] t = t
given_marks c (m ∷ ms) t = given_marks c ms (given_mark c m true t)

-- a container comes last in p, under the next id, with its border
abbrev pub come : ConId → Border → NewCon → TreeValue → TreeValue
come p border newcomer t = bordered (id t.next_id) border (attached (Last p) newcomer t)

-- the same with its marks
abbrev pub come_marked : ConId → Border → List (List ℕ) → NewCon → TreeValue → TreeValue
come_marked p border marks newcomer t = given_marks (id t.next_id) marks (come p border newcomer t)

-- a row of saved containers comes last in p, depth first: a container, then what is below it, then the rest of the row
abbrev pub appended : ConId → Saved → TreeValue → TreeValue
appended p none t = t
appended p (saved border marks newcomer kids rest) t = appended p rest (appended (id t.next_id) kids (come_marked p border marks newcomer t))
