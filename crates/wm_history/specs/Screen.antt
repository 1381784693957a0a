-- The part of the desktop that a picture of a frame shows.
use Rattle.std.specs.Prelude.{ℕ, ◌-◌, ◌==◌, ◌||◌, if◌then◌else◌, List, [], ◌∷◌, drop, length, Option, None, Some}
use Rattle.wm_base.specs.declared.geometry.Rect.{Rect}
pub use Rattle.wm_base.specs.Rect.{nowhere}
use Rattle.wm_arrange.specs.declared.parts.Placed.{Placed}
use Rattle.wm_arrange.specs.declared.parts.PlacedPart.{PlacedPart}
use Rattle.wm_arrange.specs.declared.parts.PlacedPart.TheVariants.{Back, Area, Title, Border, Content}
use Rattle.wm_forest.specs.declared.part.OutputPart.{OutputPart}
use Rattle.wm_forest.specs.Forest.{Forest, end, con}
use Rattle.wm_forest.specs.Look.{first_kids, output_kind}
use Rattle.wm_tree.specs.TreeValue.{TreeValue}
use Rattle.wm_txn.specs.Commits.{prefix}
use Rattle.wm_history.specs.History.{Entry, Start, first, accepted_of, tree}

-- the first so many entries of a history, which has the newest first
abbrev pub beginning : ℕ → List Entry → List Entry
beginning n history = drop (length history - n) history

-- the rectangle of an output, unless it has no pixels
abbrev pub rect_or : Option OutputPart → Rect → Rect
rect_or None other = other
rect_or (Some output) other = if output.rect.w == 0 || output.rect.h == 0 then other else output.rect

-- the rectangle of the first output of a row that has pixels, and nowhere where none has
abbrev pub rect_in : Forest → Rect
rect_in end = nowhere
rect_in (con part kids floats rest) = rect_or (output_kind part.kind) (rect_in rest)

-- the rectangle of the first output of a tree; one without pixels, of which an arrangement has no part, is passed over
abbrev pub first_rect : TreeValue → Rect
first_rect t = rect_in (first_kids t.nodes)

-- the rectangle of the first output of the tree at the prefix of the frame
abbrev pub screen : Start → List Entry → Rect
screen start history = first_rect (tree start (beginning (prefix (first start) (accepted_of start history)) history))

-- ---- in an arrangement

abbrev pub if_back : PlacedPart → Rect → Rect → Rect
if_back Back rect other = rect
if_back Area rect other = other
if_back (Title ink text) rect other = other
if_back (Border ink) rect other = other
if_back Content rect other = other

-- the rectangle of the first ground of a workspace
abbrev pub first_back : List Placed → Rect
first_back [] = nowhere
first_back (p ∷ parts) = if_back p.part p.rect (first_back parts)
