-- The forms of keywords and numbers alone that change windows and the desk, and all such forms.
use Rattle.std.specs.Prelude.{ℕ, Bool, List, [], ◌∷◌, ◌++◌, None, codes}
use Rattle.wm_base.specs.declared.plan.Border.TheVariants as borders
use Rattle.wm_language.specs.declared.arguments.OnOff.{OnOff}
use Rattle.wm_language.specs.declared.arguments.OnOff.TheVariants as switches
use Rattle.wm_language.specs.declared.arguments.Target.{Target}
use Rattle.wm_language.specs.declared.arguments.Side.{Side}
use Rattle.wm_language.specs.declared.arguments.GapOp.{GapOp}
use Rattle.wm_language.specs.declared.command.Command.{Command}
use Rattle.wm_language.specs.declared.command.Command.TheVariants as commands
use Rattle.wm_language.specs.Slots.{Slot, said, number, Optional}
use Rattle.wm_language.specs.Arguments.{switch_word, side_word, grow_word, gaps_word, scope_word, change_word, TargetWord, IdleWord}
use Rattle.wm_language.specs.TreeForms.{SplitForm, LayoutForm, FocusForm, MoveForm, SwapForm, KillForm}

-- `resize grow` or `resize shrink` and a side, with nothing behind it, with `N px`, or with `N px or N ppt`; `resize set N px
-- N px`, in which each `px` may be left out
pub data ResizeForm : List Slot → Command → Type 0 where
  resize_alone : (grow : Bool) (s : Side) → ResizeForm (said (codes "resize") ∷ said (grow_word grow) ∷ said (side_word s) ∷ []) (commands.Resize grow s 10 10)
  resize_px : (grow : Bool) (s : Side) (n : ℕ) → ResizeForm (said (codes "resize") ∷ said (grow_word grow) ∷ said (side_word s) ∷ number n ∷ said (codes "px") ∷ []) (commands.Resize grow s n 0)
  resize_ppt : (grow : Bool) (s : Side) (n m : ℕ) → ResizeForm (said (codes "resize") ∷ said (grow_word grow) ∷ said (side_word s) ∷ number n ∷ said (codes "px") ∷ said (codes "or") ∷ number m ∷ said (codes "ppt") ∷ []) (commands.Resize grow s n m)
  resize_to : (w h : ℕ) {px px' : List Slot} → Optional (codes "px") px → Optional (codes "px") px' → ResizeForm (said (codes "resize") ∷ said (codes "set") ∷ number w ∷ (px ++ number h ∷ px')) (commands.ResizeSet w h)

-- `floating`, `fullscreen` and `sticky` with `enable`, `disable` or `toggle`; `fullscreen` alone
pub data SwitchForm : List Slot → Command → Type 0 where
  floating_switch : (a : OnOff) → SwitchForm (said (codes "floating") ∷ said (switch_word a) ∷ []) (commands.Floating a)
  fullscreen_switch : (a : OnOff) → SwitchForm (said (codes "fullscreen") ∷ said (switch_word a) ∷ []) (commands.Fullscreen a)
  fullscreen_alone : SwitchForm (said (codes "fullscreen") ∷ []) (commands.Fullscreen switches.Toggle)
  sticky_switch : (a : OnOff) → SwitchForm (said (codes "sticky") ∷ said (switch_word a) ∷ []) (commands.Sticky a)

-- `border normal` and `border pixel`, each with a width or without; `border none`, `border toggle`
pub data BorderForm : List Slot → Command → Type 0 where
  border_normal : BorderForm (said (codes "border") ∷ said (codes "normal") ∷ []) (commands.SetBorder (borders.Normal 2))
  border_normal_wide : (n : ℕ) → BorderForm (said (codes "border") ∷ said (codes "normal") ∷ number n ∷ []) (commands.SetBorder (borders.Normal n))
  border_pixel : BorderForm (said (codes "border") ∷ said (codes "pixel") ∷ []) (commands.SetBorder (borders.Pixel 2))
  border_pixel_wide : (n : ℕ) → BorderForm (said (codes "border") ∷ said (codes "pixel") ∷ number n ∷ []) (commands.SetBorder (borders.Pixel n))
  border_none : BorderForm (said (codes "border") ∷ said (codes "none") ∷ []) (commands.SetBorder borders.Bare)
  border_toggle : BorderForm (said (codes "border") ∷ said (codes "toggle") ∷ []) commands.CycleBorder

-- `gaps` with `inner` or `outer`, `current` or `all`, `set`, `plus` or `minus`, and a number
pub data GapsForm : List Slot → Command → Type 0 where
  gaps_changed : (outer all : Bool) (op : GapOp) (n : ℕ) → GapsForm (said (codes "gaps") ∷ said (gaps_word outer) ∷ said (scope_word all) ∷ said (change_word op) ∷ number n ∷ []) (commands.Gaps outer all op n)

-- `scratchpad show`, `workspace` and a keyword, `unmark`, `nop`, `exit`, and what is read and not done
pub data DeskForm : List Slot → Command → Type 0 where
  scratchpad_show : DeskForm (said (codes "scratchpad") ∷ said (codes "show") ∷ []) commands.ScratchpadShow
  workspace_word : {w : List ℕ} {t : Target} → TargetWord w t → DeskForm (said (codes "workspace") ∷ said w ∷ []) (commands.Workspace t)
  unmark_alone : DeskForm (said (codes "unmark") ∷ []) (commands.Unmark None)
  nop_alone : DeskForm (said (codes "nop") ∷ []) commands.Nop
  idle_alone : {w : List ℕ} → IdleWord w → DeskForm (said w ∷ []) commands.Idle
  exit_alone : DeskForm (said (codes "exit") ∷ []) commands.Exit

-- the forms of keywords and numbers alone, and their commands
pub data KeywordForm (slots : List Slot) (c : Command) : Type 0 where
  of_split : SplitForm slots c → KeywordForm slots c
  of_layout : LayoutForm slots c → KeywordForm slots c
  of_focus : FocusForm slots c → KeywordForm slots c
  of_move : MoveForm slots c → KeywordForm slots c
  of_swap : SwapForm slots c → KeywordForm slots c
  of_resize : ResizeForm slots c → KeywordForm slots c
  of_switch : SwitchForm slots c → KeywordForm slots c
  of_border : BorderForm slots c → KeywordForm slots c
  of_gaps : GapsForm slots c → KeywordForm slots c
  of_kill : KillForm slots c → KeywordForm slots c
  of_desk : DeskForm slots c → KeywordForm slots c
