-- What the words of the tool ask for.
use Rattle.std.specs.Prelude.{ℕ, ◌≤◌, nat_le, if◌then◌else◌, bytes_eq, List, [], ◌∷◌, length, codes, Option, None, Some, option_map, string_bytes, String, ⊤}
use Rattle.std.specs.declared.alloc.Global.{Global}
use Rattle.wm_tool.specs.declared.words.Command.{Command}
use Rattle.wm_tool.specs.declared.words.Command.TheVariants.{Replay, Ipc, Draw}
use Rattle.wm_tool.specs.declared.words.Order.{Order}
use Rattle.wm_tool.specs.declared.words.Order.TheVariants.{Run, Generate}
use Rattle.wm_words.specs.Pieces.{natural}

abbrev pub command_named : List ℕ → Option Command
command_named word =
    if bytes_eq word (codes "replay") then Some Replay else (if bytes_eq word (codes "ipc") then Some Ipc else (if bytes_eq word (codes "draw") then Some Draw else None))

-- the number, where it is at most 20,000
abbrev pub few : Option ℕ → Option ℕ
few None = None
few (Some n) = if nat_le n 20000 then Some n else None

-- the number of steps that a word of 1 to 5 digits says, at most 20,000
abbrev pub count_of : List ℕ → Option ℕ
count_of word = if nat_le (length word) 5 then few (natural word) else None

abbrev pub generating : Option ℕ → Option ℕ → Option Order
generating None count = None
generating (Some seed) None = None
generating (Some seed) (Some count) = Some (Generate seed count)

-- a command's word alone; or `generate`, a number of 1 to 10 digits and at most 4,294,967,295, and how many steps
abbrev pub order_of : List (String Global) → Option Order
order_of [] = None
order_of (word ∷ []) = option_map Run (command_named (string_bytes word))
order_of (first ∷ second ∷ []) = None
order_of (name ∷ seed ∷ count ∷ []) = if bytes_eq (string_bytes name) (codes "generate") then generating (natural (string_bytes seed)) (count_of (string_bytes count)) else None
order_of (first ∷ second ∷ third ∷ fourth ∷ words) = None

-- at most 20,000 steps are asked for
abbrev pub AreFew : Order → Type 0
AreFew (Run command) = ⊤
AreFew (Generate seed count) = count ≤ 20000

-- the fact, where the words ask for a command on an input
abbrev pub OnRun : Option Order → (Command → Type 0) → Type 0
OnRun None fact = ⊤
OnRun (Some (Run command)) fact = fact command
OnRun (Some (Generate seed count)) fact = ⊤

-- the fact, where they ask for so many steps from a number on
abbrev pub OnGenerate : Option Order → (ℕ → ℕ → Type 0) → Type 0
OnGenerate None fact = ⊤
OnGenerate (Some (Run command)) fact = ⊤
OnGenerate (Some (Generate seed count)) fact = fact seed count

-- the fact, where they ask for no command on an input
abbrev pub OnUnread : Option Order → Type 0 → Type 0
OnUnread None fact = fact
OnUnread (Some (Run command)) fact = ⊤
OnUnread (Some (Generate seed count)) fact = fact
