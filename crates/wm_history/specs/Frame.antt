-- The frame of a history: the arrangement of its last ended transaction, each window with the buffer that it shows.
use Rattle.std.specs.Prelude.{◌++◌, List, [], ◌∷◌, Option, None, Some}
use Rattle.wm_base.specs.declared.ids.Buffer.{Buffer}
use Rattle.wm_base.specs.declared.ids.ConId.{ConId}
use Rattle.wm_arrange.specs.declared.parts.Placed.{Placed}
use Rattle.wm_arrange.specs.declared.parts.PlacedPart.{PlacedPart}
use Rattle.wm_arrange.specs.declared.parts.PlacedPart.TheVariants.{Back, Area, Title, Border, Content}
use Rattle.wm_paint.specs.declared.frame.Frame.{Frame}
use Rattle.wm_paint.specs.declared.frame.Quad.{Quad}
use Rattle.wm_paint.specs.declared.frame.What.{What}
use Rattle.wm_paint.specs.declared.frame.What.TheVariants as shows
use Rattle.wm_txn.specs.Commits.{current, done, prefix, shown}
use Rattle.wm_history.specs.History.{Entry, Start, first, accepted_of}

abbrev pub window_of : Option Buffer → Option What
window_of None = None
window_of (Some buffer) = Some (shows.Window buffer)

-- what a part shows: the ground of a workspace, a title, a border, or a window's content with its buffer; areas are
-- not painted
abbrev pub what_of : PlacedPart → Option Buffer → Option What
what_of Back buffer = Some shows.Back
what_of Area buffer = None
what_of (Title ink text) buffer = Some (shows.Title ink text)
what_of (Border ink) buffer = Some (shows.Border ink)
what_of Content buffer = window_of buffer

abbrev pub quad_of : Placed → Option What → List Quad
quad_of p None = []
quad_of p (Some what) = record { con = p.con; rect = p.rect; what = what } ∷ []

-- the quads of an arrangement, in order: what its parts show
abbrev pub quads : (ConId → Option Buffer) → List Placed → List Quad
quads buffers [] = []
quads buffers (p ∷ parts) = quad_of p (what_of p.part (buffers p.con)) ++ quads buffers parts

-- the frame of a history: the number of the last transaction that has ended, how many entries had come when it began,
-- and its arrangement, each window with its last buffer under a number not above that one
abbrev pub frame : Start → List Entry → Frame
frame start history = record {
  number = done (first start) (accepted_of start history);
  prefix = prefix (first start) (accepted_of start history);
  quads = quads (λ v. shown (first start) v (accepted_of start history)) (current (first start) (accepted_of start history));
}
