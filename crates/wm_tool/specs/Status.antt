-- Statuses: their numbers, their texts, and which refusals they are.
use Rattle.std.specs.Prelude.{ℕ, List, [], ◌++◌, codes}
use Rattle.std.specs.Fmt.{decimal}
use Rattle.wm_ports.specs.declared.whole.ReadFault.{ReadFault}
use Rattle.wm_ports.specs.declared.whole.ReadFault.TheVariants as faults
use Rattle.wm_tool.specs.declared.replay.Stop.{Stop}
use Rattle.wm_tool.specs.declared.replay.Stop.TheVariants as stops
use Rattle.wm_script.specs.declared.script.ScriptRefusal.{ScriptRefusal}
use Rattle.wm_script.specs.declared.script.ScriptRefusal.TheVariants as refusals
use Rattle.wm_tool.specs.declared.status.Status.{Status}
use Rattle.wm_tool.specs.declared.status.Status.TheVariants as status

-- the exit status of the program
abbrev pub status_number : Status → ℕ
status_number (status.Done refused) = 0
status_number status.BadWords = 2
status_number (status.BadScript line) = 3
status_number (status.BadFrames at) = 4
status_number (status.Truncated bytes) = 5
status_number (status.TooLarge read) = 6
status_number status.ReadFault = 7
status_number status.WriteFault = 8
status_number status.NoMemory = 9

-- what the program says on standard error
abbrev pub status_text : Status → List ℕ
status_text (status.Done refused) = []
status_text status.BadWords = codes "bad words"
status_text (status.BadScript line) = codes "bad script, line " ++ decimal line
status_text (status.BadFrames at) = codes "bad frame at byte " ++ decimal at
status_text (status.Truncated bytes) = codes "truncated, " ++ (decimal bytes ++ codes " bytes left")
status_text (status.TooLarge read) = codes "input too large"
status_text status.ReadFault = codes "read fault"
status_text status.WriteFault = codes "write fault"
status_text status.NoMemory = codes "no memory"

abbrev pub of_read : ReadFault → Status
of_read faults.Failed = status.ReadFault
of_read (faults.TooLarge read) = status.TooLarge read
of_read faults.NoMemory = status.NoMemory

abbrev pub of_script : ScriptRefusal → Status
of_script (refusals.BadLine line) = status.BadScript line
of_script refusals.NoMemory = status.NoMemory

abbrev pub of_stop : Stop → Status
of_stop stops.WriteFault = status.WriteFault
of_stop stops.NoMemory = status.NoMemory
