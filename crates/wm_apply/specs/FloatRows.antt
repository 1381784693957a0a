-- What commands on floating windows do to one subject.
use Rattle.std.specs.Prelude.{Bool, true, false, if◌then◌else◌, Option, None, Some}
use Rattle.wm_base.specs.declared.errors.Refusal.{Refusal}
use Rattle.wm_base.specs.declared.ids.ConId.{ConId}
use Rattle.wm_floats.specs.declared.kinds.Kind.TheVariants as kinds
use Rattle.wm_floats.specs.Floating.{float_refusal, float_tree, sink_refusal, sink_tree}
use Rattle.wm_floats.specs.Fullscreen.{fullscreen_tree}
use Rattle.wm_floats.specs.Kinds.{focus_kind_refusal, focus_kind_tree, is_of}
use Rattle.wm_floats.specs.Switches.{is_full_state, is_sticky_state, switched}
use Rattle.wm_floats.specs.Windows.{state_of, sticky_set}
use Rattle.wm_language.specs.declared.arguments.Kind.{Kind}
use Rattle.wm_language.specs.declared.arguments.Kind.TheVariants.{Floating, Tiling, Toggle}
use Rattle.wm_language.specs.declared.arguments.OnOff.{OnOff}
use Rattle.wm_language.specs.declared.arguments.OnOff.TheVariants as switch
use Rattle.wm_tree.specs.TreeValue.{TreeValue}

-- what a command asks of a property: to be on, to be off, or the other way round from now
abbrev pub wanted : OnOff → Option Bool
wanted switch.Enable = Some true
wanted switch.Disable = Some false
wanted switch.Toggle = None

-- a property is on after the command, given whether it is on now
abbrev pub is_on : OnOff → Bool → Bool
is_on arg now = switched (wanted arg) now

-- ---- focus between tiled and floating

-- the kind to which focus goes; the other way round is a tiled container for a floating subject, and a floating one for any
-- other
abbrev pub wanted_kind : Kind → Option Bool
wanted_kind Floating = Some true
wanted_kind Tiling = Some false
wanted_kind Toggle = None

abbrev pub wants_floating : Kind → ConId → TreeValue → Bool
wants_floating kind c t = switched (wanted_kind kind) (is_of kinds.Floating t c)

abbrev pub focus_of_kind_refusal : ConId → Kind → TreeValue → Option Refusal
focus_of_kind_refusal c kind t = focus_kind_refusal c (wants_floating kind c t) t

abbrev pub focus_of_kind_tree : ConId → Kind → TreeValue → TreeValue
focus_of_kind_tree c kind t = focus_kind_tree c (wants_floating kind c t) t

-- ---- floating, fullscreen and sticky

abbrev pub floating_refusal : ConId → OnOff → TreeValue → Option Refusal
floating_refusal c arg t = if is_on arg (is_of kinds.Floating t c) then float_refusal c t else sink_refusal c t

abbrev pub floating_tree : ConId → OnOff → TreeValue → TreeValue
floating_tree c arg t = if is_on arg (is_of kinds.Floating t c) then float_tree c t else sink_tree c t

abbrev pub fullscreen_set : ConId → OnOff → TreeValue → TreeValue
fullscreen_set c arg t = fullscreen_tree c (is_on arg (is_full_state (state_of c t))) t

abbrev pub sticky_tree : ConId → OnOff → TreeValue → TreeValue
sticky_tree c arg t = sticky_set (is_on arg (is_sticky_state (state_of c t))) c t
