-- The ends of a client's session that others bring about.
use Rattle.std.specs.Prelude.{ℕ, zero, suc, Bool, true, false}
use Rattle.wm_core.specs.declared.refusals.ActRefusal.{ActRefusal}
use Rattle.wm_core.specs.declared.refusals.ActRefusal.TheVariants as refusal
use Rattle.wm_ports.specs.declared.links.SendFault.{SendFault}
use Rattle.wm_ports.specs.declared.links.SendFault.TheVariants as fault
use Rattle.wm_clients.specs.declared.ending.ClientEnd.{ClientEnd}
use Rattle.wm_clients.specs.declared.ending.ClientEnd.TheVariants as end

-- the end for a step that the door did not take
abbrev pub end_of_refusal : ActRefusal → ClientEnd
end_of_refusal refusal.NoMemory = end.NoMemory
end_of_refusal (refusal.Exhausted exhausted) = end.Exhausted

-- the end for a sending that took nothing
abbrev pub end_of_fault : SendFault → ClientEnd
end_of_fault fault.Failed = end.LinkFault
end_of_fault fault.NoMemory = end.NoMemory

-- the end where the link ended with so many bytes behind the last line feed
abbrev pub end_of_rest : ℕ → ClientEnd
end_of_rest zero = end.Closed
end_of_rest (suc n) = end.Truncated

-- whether the client's windows are closed at this end: not where the door refused a step, or there was no memory
abbrev pub closes_windows : ClientEnd → Bool
closes_windows end.Exhausted = false
closes_windows end.NoMemory = false
closes_windows other = true
