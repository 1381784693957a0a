-- The forms that have a free argument: a name, a mark, a title.
use Rattle.std.specs.Prelude.{ℕ, Bool, true, false, List, [], ◌∷◌, ◌++◌, Some, None, codes}
use Rattle.wm_language.specs.declared.arguments.OutArg.TheVariants as outs
use Rattle.wm_language.specs.declared.arguments.Target.TheVariants as targets
use Rattle.wm_language.specs.declared.arguments.SwapArg.TheVariants as swaps
use Rattle.wm_language.specs.declared.command.Command.{Command}
use Rattle.wm_language.specs.declared.command.Command.TheVariants as commands
use Rattle.wm_language.specs.Slots.{Slot, said, word, text, anything, Optional}
use Rattle.wm_language.specs.Arguments.{IdleWord, To}

-- what follows `move TO`: `workspace REST`, `workspace number REST`, `output WORD`, `mark REST`
pub data MoveToArgument : List Slot → Command → Type 0 where
  send_workspace : (n : List ℕ) → MoveToArgument (said (codes "workspace") ∷ text n ∷ []) (commands.MoveToWorkspace (targets.Named n))
  send_numbered : (n : List ℕ) → MoveToArgument (said (codes "workspace") ∷ said (codes "number") ∷ text n ∷ []) (commands.MoveToWorkspace (targets.Number n))
  send_output : (n : List ℕ) → MoveToArgument (said (codes "output") ∷ word n ∷ []) (commands.MoveToOutput (outs.Named n))
  send_mark : (n : List ℕ) → MoveToArgument (said (codes "mark") ∷ text n ∷ []) (commands.MoveToMark n)

-- `--add`, or `--replace`, or neither: beside the other marks, or in their place
pub data Adding : List Slot → Bool → Type 0 where
  add_nothing : Adding [] false
  add_there : Adding (said (codes "--add") ∷ []) true
  replace_there : Adding (said (codes "--replace") ∷ []) false

-- `--toggle`, or nothing
pub data Toggling : List Slot → Bool → Type 0 where
  toggle_nothing : Toggling [] false
  toggle_there : Toggling (said (codes "--toggle") ∷ []) true

-- the forms that have a free argument, and their commands
pub data ArgumentForm : List Slot → Command → Type 0 where
  -- `focus output WORD`
  focus_named : (n : List ℕ) → ArgumentForm (said (codes "focus") ∷ said (codes "output") ∷ word n ∷ []) (commands.FocusOutput (outs.Named n))
  -- `move TO` and one of those above
  move_sent : {to slots : List Slot} {c : Command} → To to → MoveToArgument slots c → ArgumentForm (said (codes "move") ∷ (to ++ slots)) c
  -- `move workspace to output WORD`, in which `to` may be left out
  workspace_moved : {to : List Slot} (n : List ℕ) → Optional (codes "to") to → ArgumentForm (said (codes "move") ∷ said (codes "workspace") ∷ (to ++ said (codes "output") ∷ word n ∷ [])) (commands.MoveWorkspace (outs.Named n))
  -- `swap container with mark REST`, in which `container` may be left out
  swap_mark : {c : List Slot} (n : List ℕ) → Optional (codes "container") c → ArgumentForm (said (codes "swap") ∷ (c ++ said (codes "with") ∷ said (codes "mark") ∷ text n ∷ [])) (commands.Swap (swaps.Mark n))
  -- `mark REST`, before it `--add` or `--replace` or neither, then `--toggle` or not
  mark_named : {how flag : List Slot} {add toggle : Bool} (n : List ℕ) → Adding how add → Toggling flag toggle → ArgumentForm (said (codes "mark") ∷ (how ++ (flag ++ text n ∷ []))) (commands.Mark add toggle n)
  -- `unmark REST`
  unmark_named : (n : List ℕ) → ArgumentForm (said (codes "unmark") ∷ text n ∷ []) (commands.Unmark (Some n))
  -- `workspace REST`, `workspace number REST`
  workspace_named : (n : List ℕ) → ArgumentForm (said (codes "workspace") ∷ text n ∷ []) (commands.Workspace (targets.Named n))
  workspace_numbered : (n : List ℕ) → ArgumentForm (said (codes "workspace") ∷ said (codes "number") ∷ text n ∷ []) (commands.Workspace (targets.Number n))
  -- `rename workspace to REST`, `rename workspace WORD to REST`
  rename_focused : (n : List ℕ) → ArgumentForm (said (codes "rename") ∷ said (codes "workspace") ∷ said (codes "to") ∷ text n ∷ []) (commands.Rename None n)
  rename_named : (was n : List ℕ) → ArgumentForm (said (codes "rename") ∷ said (codes "workspace") ∷ word was ∷ said (codes "to") ∷ text n ∷ []) (commands.Rename (Some was) n)
  -- `mode REST`, `append_layout REST`, `title_format REST`
  mode_named : (n : List ℕ) → ArgumentForm (said (codes "mode") ∷ text n ∷ []) (commands.Mode n)
  layout_appended : (n : List ℕ) → ArgumentForm (said (codes "append_layout") ∷ text n ∷ []) (commands.AppendLayout n)
  title_set : (n : List ℕ) → ArgumentForm (said (codes "title_format") ∷ text n ∷ []) (commands.TitleFormat n)
  -- `nop REST`
  nop_text : (n : List ℕ) → ArgumentForm (said (codes "nop") ∷ text n ∷ []) commands.Nop
  -- `exec`, `open`, `reload`, `restart`, each with a text of any length
  idle_text : {w : List ℕ} → IdleWord w → ArgumentForm (said w ∷ anything ∷ []) commands.Idle
