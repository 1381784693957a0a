-- Laws of `sticky toggle` and `fullscreen toggle`: two of them give back what was.
use Rattle.std.specs.Prelude.{◌≡◌, Bool, true, false, not, Option, None, Some}
use Rattle.wm_base.specs.declared.ids.ConId.{ConId}
use Rattle.wm_floats.specs.Fullscreen.{fills_alone, fullscreen_tree, others_unfull}
use Rattle.wm_floats.specs.Windows.{state_of, sticky_set}
use Rattle.wm_forest.specs.declared.part.ConState.{ConState}
use Rattle.wm_tree.specs.TreeValue.{TreeValue, workspace_of}

-- ---- `sticky toggle`

abbrev pub is_sticky : Option ConState → Bool
is_sticky None = false
is_sticky (Some s) = s.sticky

-- c is sticky if it was not, and no longer so if it was
abbrev pub sticky_toggled : ConId → TreeValue → TreeValue
sticky_toggled c t = sticky_set (not (is_sticky (state_of c t))) c t

-- `sticky toggle` twice gives the tree back
abbrev pub StickyTogglesBack : Type 0
StickyTogglesBack = (c : ConId) (t : TreeValue) → sticky_toggled c (sticky_toggled c t) ≡ t

-- ---- `fullscreen toggle`

abbrev pub is_fullscreen : Option ConState → Bool
is_fullscreen None = false
is_fullscreen (Some s) = s.fullscreen

-- c is fullscreen if it was not, and then no other container of its workspace; and no longer so if it was
abbrev pub full_toggled : ConId → TreeValue → TreeValue
full_toggled c t = fullscreen_tree c (not (is_fullscreen (state_of c t))) t

-- `fullscreen toggle` twice on a container takes fullscreen from the other containers of its workspace, and leaves all else
-- as it was
abbrev pub FullTogglesTwice : Type 0
FullTogglesTwice = (c : ConId) (s : ConState) (t : TreeValue) → state_of c t ≡ Some s → full_toggled c (full_toggled c t) ≡ others_unfull c (workspace_of t c) t

-- where none of these is fullscreen, it gives the tree back
abbrev pub FullTogglesBack : Type 0
FullTogglesBack = (c : ConId) (t : TreeValue) → fills_alone c (workspace_of t c) t ≡ true → full_toggled c (full_toggled c t) ≡ t
