-- Laws of `floating toggle`: what two of them give back of a window. Its place among the tiled ones is not given back: it
-- comes after the leaf of its workspace.
use Rattle.std.specs.Prelude.{◌≡◌, true, if◌then◌else◌, None, Some}
use Rattle.wm_base.specs.declared.geometry.Rect.{Rect}
use Rattle.wm_base.specs.declared.ids.ConId.{ConId}
use Rattle.wm_floats.specs.declared.kinds.Kind.TheVariants as kinds
use Rattle.wm_floats.specs.Floating.{earlier, float_refusal, float_tree, floating_rect, sink_refusal, sink_tree}
use Rattle.wm_floats.specs.Kinds.{is_of}
use Rattle.wm_shared.specs.Subject.{IsSubject}
use Rattle.wm_tree.specs.TreeValue.{TreeValue, is_tiled_con, workspace_of}

-- c is tiled if it floats, and floats if not
abbrev pub floating_toggled : ConId → TreeValue → TreeValue
floating_toggled c t = if is_of kinds.Floating t c then sink_tree c t else float_tree c t

-- c floats on this workspace with this outer rectangle
pub record IsAfloat (c w : ConId) (r : Rect) (t : TreeValue) : Type 0 where
  pub floats : is_of kinds.Floating t c ≡ true
  pub workspace : workspace_of t c ≡ Some w
  pub rect : earlier c t ≡ Some r

-- c is tiled on this workspace, and floated with this outer rectangle earlier
pub record IsSunk (c w : ConId) (r : Rect) (t : TreeValue) : Type 0 where
  pub tiled : is_tiled_con t c ≡ true
  pub workspace : workspace_of t c ≡ Some w
  pub rect : earlier c t ≡ Some r

-- `floating toggle` on a tiled window lets it float on its workspace
abbrev pub TogglesAfloat : Type 0
TogglesAfloat = (c w : ConId) (t : TreeValue) → IsSubject t c → is_tiled_con t c ≡ true → workspace_of t c ≡ Some w → float_refusal c t ≡ None → IsAfloat c w (floating_rect c t) (floating_toggled c t)

-- a second one tiles it on the same workspace, where neither is refused
abbrev pub TogglesSunkAgain : Type 0
TogglesSunkAgain =
    (c w : ConId) (t : TreeValue) → IsSubject t c → is_tiled_con t c ≡ true → workspace_of t c ≡ Some w → float_refusal c t ≡ None → sink_refusal c (floating_toggled c t) ≡ None
    → IsSunk c w (floating_rect c t) (floating_toggled c (floating_toggled c t))

-- two of them on a floating window, where neither is refused, let it float on the same workspace with the same rectangle
abbrev pub TogglesAfloatAgain : Type 0
TogglesAfloatAgain =
    (c w : ConId) (r : Rect) (t : TreeValue) → IsSubject t c → IsAfloat c w r t → sink_refusal c t ≡ None → float_refusal c (floating_toggled c t) ≡ None → IsAfloat c w r (floating_toggled c (floating_toggled c t))
