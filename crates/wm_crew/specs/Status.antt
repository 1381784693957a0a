-- Statuses: their numbers and their texts, and which faults they are.
use Rattle.std.specs.Prelude.{ℕ, List, [], ◌++◌, codes, Option, None, Some}
use Rattle.std.specs.Fmt.{decimal}
use Rattle.wm_base.specs.ErrorText.{word_of}
use Rattle.wm_crew.specs.declared.fault.Fault.{Fault}
use Rattle.wm_crew.specs.declared.fault.Fault.TheVariants as fault
use Rattle.wm_crew.specs.declared.status.ServeStatus.{ServeStatus}
use Rattle.wm_crew.specs.declared.status.ServeStatus.TheVariants as status

-- the exit status of the program
abbrev pub status_number : ServeStatus → ℕ
status_number status.Done = 0
status_number status.BadWords = 2
status_number status.ReadFault = 7
status_number (status.TooLarge read) = 6
status_number (status.BadConfig line) = 3
status_number (status.Full line limit) = 10
status_number (status.ListenFault door) = 11
status_number status.WriteFault = 8
status_number status.Exhausted = 12
status_number status.NoMemory = 9

-- what the program says on standard error
abbrev pub status_text : ServeStatus → List ℕ
status_text status.Done = []
status_text status.BadWords = codes "bad words"
status_text status.ReadFault = codes "read fault"
status_text (status.TooLarge read) = codes "input too large"
status_text (status.BadConfig line) = codes "bad configuration, line " ++ decimal line
status_text (status.Full line limit) = codes "full " ++ (word_of limit ++ (codes ", line " ++ decimal line))
status_text (status.ListenFault door) = codes "listener " ++ (decimal door ++ codes " failed")
status_text status.WriteFault = codes "write fault"
status_text status.Exhausted = codes "history full"
status_text status.NoMemory = codes "no memory"

-- what the fault of actors that have ended comes to
abbrev pub status_of : Option Fault → ServeStatus
status_of None = status.Done
status_of (Some (fault.Listen door)) = status.ListenFault door
status_of (Some fault.Write) = status.WriteFault
status_of (Some fault.Exhausted) = status.Exhausted
status_of (Some fault.NoMemory) = status.NoMemory
