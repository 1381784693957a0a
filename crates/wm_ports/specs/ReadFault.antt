-- Why reading a source to a limit can fail.
use Rattle.std.specs.Prelude.{ℕ, ◌<◌, List, Option, ⊤}
use Rattle.wm_defs.specs.Counts.{Rose}
use Rattle.wm_ports.specs.Told.{ReadsCount}
use Rattle.wm_ports.specs.declared.whole.ReadFault.{ReadFault}
use Rattle.wm_ports.specs.declared.whole.ReadFault.TheVariants as faults

-- a fault has this cause, where the source told `old` before and `new` after, and its count of faults went so
abbrev pub HasCause : ReadFault → ℕ → Option (List ℕ) → Option (List ℕ) → ℕ → ℕ → Type 0
HasCause faults.Failed limit old new count_old count_new = Rose count_old count_new
HasCause (faults.TooLarge read) limit old new count_old count_new = (limit < read) × ReadsCount old new read
HasCause faults.NoMemory limit old new count_old count_new = ⊤
