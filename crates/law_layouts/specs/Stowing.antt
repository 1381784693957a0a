-- Laws of the scratchpad: a window that hides there, and comes back.
use Rattle.std.specs.Prelude.{◌≡◌, true, false, None, Some}
use Rattle.law_layouts.specs.Afloat.{IsAfloat}
use Rattle.wm_base.specs.declared.geometry.Rect.{Rect}
use Rattle.wm_base.specs.declared.ids.ConId.{ConId}
use Rattle.wm_floats.specs.declared.kinds.Kind.TheVariants as kinds
use Rattle.wm_floats.specs.Floating.{earlier, floating_rect}
use Rattle.wm_floats.specs.Kinds.{is_flagged_state, is_of_space}
use Rattle.wm_floats.specs.Scratchpad.{first_hidden, middle_on, show_scratchpad_refusal, show_scratchpad_tree, to_scratchpad_refusal, to_scratchpad_tree}
use Rattle.wm_floats.specs.Windows.{state_of}
use Rattle.wm_forest.specs.Look.{kind_of, output_kind}
use Rattle.wm_shared.specs.Subject.{IsSubject, is_hidden}
use Rattle.wm_tree.specs.TreeValue.{TreeValue, current, focused, shown}

-- c is in the scratchpad, flagged for it, with this outer rectangle
pub record IsStowed (c : ConId) (r : Rect) (t : TreeValue) : Type 0 where
  pub hidden : is_hidden t c ≡ true
  pub flagged : is_flagged_state (state_of c t) ≡ true
  pub rect : earlier c t ≡ Some r

-- after `move scratchpad` that is not refused, the window is in the scratchpad
abbrev pub MovesToScratchpad : Type 0
MovesToScratchpad = (c : ConId) (t : TreeValue) → IsSubject t c → to_scratchpad_refusal c t ≡ None → IsStowed c (floating_rect c t) (to_scratchpad_tree c t)

-- a rectangle of this size in the middle of the current output
abbrev pub centred : Rect → TreeValue → Rect
centred r t = middle_on (kind_of output_kind (current t) t.nodes) r

-- c floats on this workspace with this outer rectangle, and is what is focused
pub record IsBack (c w : ConId) (r : Rect) (t : TreeValue) : Type 0 where
  pub afloat : IsAfloat c w r t
  pub focus : focused t ≡ c

-- `scratchpad show` for a window of the scratchpad, where it is not refused: the window floats on the focused workspace, in
-- the middle of the current output, as large as it was, and is focused
abbrev pub ShowsThis : Type 0
ShowsThis = (c : ConId) (r : Rect) (t : TreeValue) → IsSubject t c → IsStowed c r t → show_scratchpad_refusal (Some c) t ≡ None → IsBack c (shown t) (centred r t) (show_scratchpad_tree (Some c) t)

-- no window that is flagged for the scratchpad floats on the focused workspace
abbrev pub NoneIsOut : TreeValue → Type 0
NoneIsOut t = (i : ConId) → is_of_space kinds.Flagged (shown t) t i ≡ false

-- `scratchpad show` for no window in particular, where none of the scratchpad is out on the focused workspace, brings the
-- first window of the scratchpad in that way; one that is out would be put away or focused in its stead
abbrev pub ShowsFirst : Type 0
ShowsFirst =
    (c : ConId) (r : Rect) (t : TreeValue) → IsSubject t c → IsStowed c r t → first_hidden t ≡ Some c → NoneIsOut t → show_scratchpad_refusal None t ≡ None → IsBack c (shown t) (centred r t) (show_scratchpad_tree None t)

-- a window that comes to the empty scratchpad is its first one
abbrev pub ComesFirst : Type 0
ComesFirst = (c : ConId) (t : TreeValue) → IsSubject t c → to_scratchpad_refusal c t ≡ None → first_hidden t ≡ None → first_hidden (to_scratchpad_tree c t) ≡ Some c

-- `scratchpad show` behind `move scratchpad`, where the scratchpad was empty and none of it is out on the focused workspace,
-- brings the same window
abbrev pub ShowsWhatHid : Type 0
ShowsWhatHid =
    (c : ConId) (t hid : TreeValue) → hid ≡ to_scratchpad_tree c t → IsSubject t c → to_scratchpad_refusal c t ≡ None → first_hidden t ≡ None → NoneIsOut hid → show_scratchpad_refusal None hid ≡ None
    → IsBack c (shown hid) (centred (floating_rect c t) hid) (show_scratchpad_tree None hid)
