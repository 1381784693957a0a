-- Borders of windows.
use Rattle.std.specs.Prelude.{Bool, false, nat_lt, Option, None, Some}
use Rattle.std.specs.Option.{option_or}
use Rattle.wm_base.specs.declared.errors.ErrorText.TheVariants as texts
use Rattle.wm_base.specs.declared.errors.Refusal.{Refusal}
use Rattle.wm_base.specs.declared.ids.ConId.{ConId}
use Rattle.wm_base.specs.declared.plan.Border.{Border}
use Rattle.wm_base.specs.declared.plan.Border.TheVariants.{Normal, Pixel, Bare}
use Rattle.wm_shared.specs.Refusing.{error_if}
use Rattle.wm_shared.specs.Windows.{state_of}
use Rattle.wm_sizes.specs.Windows.{border_set, look_refusal}
use Rattle.wm_forest.specs.declared.part.ConState.{ConState}
use Rattle.wm_tree.specs.TreeValue.{TreeValue}

-- the border is wider than 64 pixels
abbrev pub is_wide : Border → Bool
is_wide (Normal n) = nat_lt 64 n
is_wide (Pixel n) = nat_lt 64 n
is_wide Bare = false

-- it is a window, and the border is not too wide
abbrev pub set_border_refusal : ConId → Border → TreeValue → Option Refusal
set_border_refusal c b t = option_or (look_refusal c t) (error_if (is_wide b) texts.OutOfRange None)

-- c has this border
abbrev pub set_border_tree : ConId → Border → TreeValue → TreeValue
set_border_tree c b t = border_set b c t

-- ---- toggling

abbrev pub cycle_border_refusal : ConId → TreeValue → Option Refusal
cycle_border_refusal c t = look_refusal c t

-- the border to which toggling goes: from a normal one to none, then to a frame, then to a normal one, of 2 pixels each
abbrev pub next_border : Border → Border
next_border (Normal n) = Bare
next_border Bare = Pixel 2
next_border (Pixel n) = Normal 2

abbrev pub turned : ConId → Option ConState → TreeValue → TreeValue
turned c None t = t
turned c (Some s) t = border_set (next_border s.border) c t

-- c has the next border
abbrev pub cycle_border_tree : ConId → TreeValue → TreeValue
cycle_border_tree c t = turned c (state_of c t) t
