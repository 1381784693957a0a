-- The forms of keywords and numbers alone that change the tree: split, layout, focus, move, swap and kill.
use Rattle.std.specs.Prelude.{ℕ, List, [], ◌∷◌, ◌++◌, ℤ, codes}
use Rattle.wm_base.specs.declared.geometry.Dir.{Dir}
use Rattle.wm_language.specs.declared.arguments.SplitArg.{SplitArg}
use Rattle.wm_language.specs.declared.arguments.LayoutArg.{LayoutArg}
use Rattle.wm_language.specs.declared.arguments.Cycle.TheVariants as cycles
use Rattle.wm_language.specs.declared.arguments.Kind.{Kind}
use Rattle.wm_language.specs.declared.arguments.OutArg.{OutArg}
use Rattle.wm_language.specs.declared.arguments.Target.{Target}
use Rattle.wm_language.specs.declared.arguments.Target.TheVariants as targets
use Rattle.wm_language.specs.declared.arguments.SwapArg.TheVariants as swaps
use Rattle.wm_language.specs.declared.command.Command.{Command}
use Rattle.wm_language.specs.declared.command.Command.TheVariants as commands
use Rattle.wm_language.specs.Slots.{Slot, said, number, signed, Optional}
use Rattle.wm_language.specs.Arguments.{direction_word, SplitWord, LayoutWord, kind_word, OutputWord, TargetWord, To}

-- `split WORD`
pub data SplitForm : List Slot → Command → Type 0 where
  split_by : {w : List ℕ} {a : SplitArg} → SplitWord w a → SplitForm (said (codes "split") ∷ said w ∷ []) (commands.Split a)

-- `layout WORD`, `layout toggle`, `layout toggle split`, `layout toggle all`
pub data LayoutForm : List Slot → Command → Type 0 where
  layout_set : {w : List ℕ} {a : LayoutArg} → LayoutWord w a → LayoutForm (said (codes "layout") ∷ said w ∷ []) (commands.SetLayout a)
  layout_toggle : LayoutForm (said (codes "layout") ∷ said (codes "toggle") ∷ []) (commands.CycleLayout cycles.Bare)
  layout_toggle_split : LayoutForm (said (codes "layout") ∷ said (codes "toggle") ∷ said (codes "split") ∷ []) (commands.CycleLayout cycles.Split)
  layout_toggle_all : LayoutForm (said (codes "layout") ∷ said (codes "toggle") ∷ said (codes "all") ∷ []) (commands.CycleLayout cycles.All)

-- `focus`, and `focus` with a direction, `parent`, `child`, a kind, or `output` and a keyword
pub data FocusForm : List Slot → Command → Type 0 where
  focus_alone : FocusForm (said (codes "focus") ∷ []) commands.Focus
  focus_direction : (d : Dir) → FocusForm (said (codes "focus") ∷ said (direction_word d) ∷ []) (commands.FocusDir d)
  focus_parent : FocusForm (said (codes "focus") ∷ said (codes "parent") ∷ []) commands.FocusParent
  focus_child : FocusForm (said (codes "focus") ∷ said (codes "child") ∷ []) commands.FocusChild
  focus_kind : (k : Kind) → FocusForm (said (codes "focus") ∷ said (kind_word k) ∷ []) (commands.FocusKind k)
  focus_output : {w : List ℕ} {o : OutArg} → OutputWord w o → FocusForm (said (codes "focus") ∷ said (codes "output") ∷ said w ∷ []) (commands.FocusOutput o)

-- what follows `move TO`: `workspace` and a keyword, `output` and a keyword, `scratchpad`, `position Z px Z px`, in which
-- each `px` may be left out, `position center`
pub data MoveToForm : List Slot → Command → Type 0 where
  to_workspace : {w : List ℕ} {t : Target} → TargetWord w t → MoveToForm (said (codes "workspace") ∷ said w ∷ []) (commands.MoveToWorkspace t)
  to_current : MoveToForm (said (codes "workspace") ∷ said (codes "current") ∷ []) (commands.MoveToWorkspace targets.Current)
  to_output : {w : List ℕ} {o : OutArg} → OutputWord w o → MoveToForm (said (codes "output") ∷ said w ∷ []) (commands.MoveToOutput o)
  to_scratchpad : MoveToForm (said (codes "scratchpad") ∷ []) commands.MoveToScratchpad
  to_position : (x y : ℤ) {px px' : List Slot} → Optional (codes "px") px → Optional (codes "px") px' → MoveToForm (said (codes "position") ∷ signed x ∷ (px ++ signed y ∷ px')) (commands.MovePosition x y)
  to_center : MoveToForm (said (codes "position") ∷ said (codes "center") ∷ []) commands.MoveCenter

-- `move DIR`, `move DIR N`, `move DIR N px`; `move TO` and one of those above; `move workspace to output` and a keyword, in
-- which `to` may be left out
pub data MoveForm : List Slot → Command → Type 0 where
  move_direction : (d : Dir) → MoveForm (said (codes "move") ∷ said (direction_word d) ∷ []) (commands.MoveDir d 10)
  move_pixels : (d : Dir) (n : ℕ) {px : List Slot} → Optional (codes "px") px → MoveForm (said (codes "move") ∷ said (direction_word d) ∷ number n ∷ px) (commands.MoveDir d n)
  move_to : {to slots : List Slot} {c : Command} → To to → MoveToForm slots c → MoveForm (said (codes "move") ∷ (to ++ slots)) c
  move_workspace : {to : List Slot} {w : List ℕ} {o : OutArg} → Optional (codes "to") to → OutputWord w o → MoveForm (said (codes "move") ∷ said (codes "workspace") ∷ (to ++ said (codes "output") ∷ said w ∷ [])) (commands.MoveWorkspace o)

-- `swap container with con_id N`, `swap container with id N`, in which `container` may be left out
pub data SwapForm : List Slot → Command → Type 0 where
  swap_con_id : {c : List Slot} (n : ℕ) → Optional (codes "container") c → SwapForm (said (codes "swap") ∷ (c ++ said (codes "with") ∷ said (codes "con_id") ∷ number n ∷ [])) (commands.Swap (swaps.Con n))
  swap_id : {c : List Slot} (n : ℕ) → Optional (codes "container") c → SwapForm (said (codes "swap") ∷ (c ++ said (codes "with") ∷ said (codes "id") ∷ number n ∷ [])) (commands.Swap (swaps.Window n))

-- `kill`, `kill window`, `kill client`
pub data KillForm : List Slot → Command → Type 0 where
  kill_alone : KillForm (said (codes "kill") ∷ []) commands.Kill
  kill_window : KillForm (said (codes "kill") ∷ said (codes "window") ∷ []) commands.Kill
  kill_client : KillForm (said (codes "kill") ∷ said (codes "client") ∷ []) commands.Kill
