-- What a command switches on, off, or the other way round from now.
use Rattle.std.specs.Prelude.{Bool, not, if◌then◌else◌, false, Option, None, Some}
use Rattle.wm_base.specs.declared.errors.Refusal.{Refusal}
use Rattle.wm_base.specs.declared.ids.ConId.{ConId}
use Rattle.wm_floats.specs.declared.kinds.Kind.TheVariants as kinds
use Rattle.wm_floats.specs.Floating.{float_refusal, float_tree, sink_refusal, sink_tree}
use Rattle.wm_floats.specs.Fullscreen.{fullscreen_tree}
use Rattle.wm_floats.specs.Kinds.{focus_kind_refusal, focus_kind_tree, is_of}
use Rattle.wm_floats.specs.Windows.{state_of, sticky_set}
use Rattle.wm_forest.specs.declared.part.ConState.{ConState}
use Rattle.wm_tree.specs.TreeValue.{TreeValue}

-- a property is on after the command, given whether it is on now: as the command says, or the other way round
abbrev pub switched : Option Bool → Bool → Bool
switched None now = not now
switched (Some on) now = on

-- ---- floating

-- c floats after the command
abbrev pub will_float : ConId → Option Bool → TreeValue → Bool
will_float c on t = switched on (is_of kinds.Floating t c)

abbrev pub set_floating_refusal : ConId → Option Bool → TreeValue → Option Refusal
set_floating_refusal c on t = if will_float c on t then float_refusal c t else sink_refusal c t

abbrev pub set_floating_tree : ConId → Option Bool → TreeValue → TreeValue
set_floating_tree c on t = if will_float c on t then float_tree c t else sink_tree c t

-- ---- fullscreen and sticky

abbrev pub is_full_state : Option ConState → Bool
is_full_state None = false
is_full_state (Some s) = s.fullscreen

-- c is fullscreen after the command
abbrev pub will_fill : ConId → Option Bool → TreeValue → Bool
will_fill c on t = switched on (is_full_state (state_of c t))

abbrev pub set_fullscreen_tree : ConId → Option Bool → TreeValue → TreeValue
set_fullscreen_tree c on t = fullscreen_tree c (will_fill c on t) t

abbrev pub is_sticky_state : Option ConState → Bool
is_sticky_state None = false
is_sticky_state (Some s) = s.sticky

abbrev pub set_sticky_tree : ConId → Option Bool → TreeValue → TreeValue
set_sticky_tree c on t = sticky_set (switched on (is_sticky_state (state_of c t))) c t

-- ---- focus between tiled and floating

-- focus goes to a floating window, or to a tiled container; the other way round it goes to a tiled one from a floating one
-- alone
abbrev pub focus_other_refusal : ConId → Option Bool → TreeValue → Option Refusal
focus_other_refusal c floating t = focus_kind_refusal c (switched floating (is_of kinds.Floating t c)) t

abbrev pub focus_other_tree : ConId → Option Bool → TreeValue → TreeValue
focus_other_tree c floating t = focus_kind_tree c (switched floating (is_of kinds.Floating t c)) t
