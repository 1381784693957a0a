-- Which fault of several actors counts.
use Rattle.std.specs.Prelude.{ℕ, suc, nat_lt, if◌then◌else◌, List, [], ◌∷◌, Option, None, Some}
use Rattle.wm_actors.specs.declared.ending.ActorEnd.{ActorEnd}
use Rattle.wm_actors.specs.declared.ending.ActorEnd.TheVariants as end
use Rattle.wm_crew.specs.declared.fault.Fault.{Fault}
use Rattle.wm_crew.specs.declared.fault.Fault.TheVariants as fault

-- the fault of an actor at this door, if it has one
abbrev pub fault_of : ℕ → ActorEnd → Option Fault
fault_of door end.Stopped = None
fault_of door end.ListenFault = Some (fault.Listen door)
fault_of door end.WriteFault = Some fault.Write
fault_of door end.Exhausted = Some fault.Exhausted
fault_of door end.NoMemory = Some fault.NoMemory

-- where a fault stands among all: a lower one counts before a higher one
abbrev pub rank : Option Fault → ℕ
rank (Some (fault.Listen door)) = 0
rank (Some fault.Write) = 1
rank (Some fault.Exhausted) = 2
rank (Some fault.NoMemory) = 3
rank None = 4

-- which of two faults counts: the first one, unless the second stands before it
abbrev pub worse : Option Fault → Option Fault → Option Fault
worse first second = if nat_lt (rank second) (rank first) then second else first

-- which fault counts of actors that ended so, whose doors are numbered from here on
abbrev pub fault_among : ℕ → List ActorEnd → Option Fault
fault_among door [] = None
fault_among door (e ∷ ends) = worse (fault_of door e) (fault_among (suc door) ends)
