-- Laws of moving focus past the edge of an output: which output takes it, and that it is the current one then.
use Rattle.std.specs.Prelude.{◌≡◌, ◌≤◌, false, true, nat_abs, Option, None, Some}
use Rattle.wm_base.specs.declared.geometry.Dir.{Dir}
use Rattle.wm_base.specs.declared.geometry.Rect.{Rect}
use Rattle.wm_base.specs.declared.ids.ConId.{ConId}
use Rattle.wm_floats.specs.declared.kinds.Kind.TheVariants as kinds
use Rattle.wm_floats.specs.Kinds.{is_of}
use Rattle.wm_focus.specs.declared.rungs.Aim.TheVariants.{Beside}
use Rattle.wm_focus.specs.Direction.{focus_dir_tree}
use Rattle.wm_focus.specs.Rungs.{nearest}
use Rattle.wm_shared.specs.Outputs.{gap, is_beyond, output_from, output_in}
use Rattle.wm_shared.specs.Showing.{shown_on}
use Rattle.wm_forest.specs.declared.part.OutputPart.{OutputPart}
use Rattle.wm_forest.specs.Forest.{Forest}
use Rattle.wm_forest.specs.Look.{first_floats, first_kids, first_part, kind_by, kind_of, node_in, output_kind}
use Rattle.wm_tree.specs.Sound.{IsSound}
use Rattle.wm_tree.specs.TreeValue.{TreeValue, current, shown}

-- the output o is the current one in the new tree, and the workspace that it shows is the one that is shown; the outputs
-- with all that is below them, the scratchpad, the order of recency and the urgent windows are as they were
pub record IsEntered (o : ConId) (old new : TreeValue) : Type 0 where
  pub current : current new ≡ o
  pub shown : Some (shown new) ≡ shown_on o old
  pub outputs : first_kids new.nodes ≡ first_kids old.nodes
  pub scratchpad : first_floats new.nodes ≡ first_floats old.nodes
  pub recency : new.recency ≡ old.recency
  pub urgent : new.urgent ≡ old.urgent

-- where nothing stands beside a container that does not float, and an output lies in the direction, focusing in that
-- direction makes this output the current one
abbrev pub FocusEnters : Type 0
FocusEnters =
    (c o : ConId) (d : Dir) (t : TreeValue) → IsSound t → is_of kinds.Floating t c ≡ false → nearest Beside d c t.nodes ≡ None → output_from d c t ≡ Some o
    → IsEntered o t (focus_dir_tree c d t)

-- ---- which output it is

-- the output q of a row
abbrev pub output_at : ConId → Forest → Option OutputPart
output_at q row = kind_by output_kind (first_part (node_in q row))

-- o is the output x of the row, which lies beyond the edge of the rectangle a; none that lies beyond it is nearer, and of
-- those that are as near o has the least id
pub record IsNearest (d : Dir) (a : Rect) (o : ConId) (x : OutputPart) (row : Forest) : Type 0 where
  pub is : output_at o row ≡ Some x
  pub beyond : is_beyond d a x.rect ≡ true
  pub nearest : (q : ConId) (y : OutputPart) → output_at q row ≡ Some y → is_beyond d a y.rect ≡ true → nat_abs (gap d a x.rect) ≤ nat_abs (gap d a y.rect)
  pub least : (q : ConId) (y : OutputPart) → output_at q row ≡ Some y → is_beyond d a y.rect ≡ true → nat_abs (gap d a x.rect) ≡ nat_abs (gap d a y.rect) → o.0 ≤ q.0

-- no output is found exactly where none lies beyond the edge
abbrev pub IsFoundBeyond : Dir → Rect → Forest → Option ConId → Type 0
IsFoundBeyond d a row None = (q : ConId) (y : OutputPart) → output_at q row ≡ Some y → is_beyond d a y.rect ≡ false
IsFoundBeyond d a row (Some o) = (x : OutputPart) × IsNearest d a o x row

-- the output in a direction of an output is the nearest beyond its edge, then the one of least id
abbrev pub OutputNearest : Type 0
OutputNearest =
    (p : ConId) (a : OutputPart) (d : Dir) (t : TreeValue) → IsSound t → kind_of output_kind p t.nodes ≡ Some a
    → IsFoundBeyond d a.rect (first_kids t.nodes) (output_in d p t)
