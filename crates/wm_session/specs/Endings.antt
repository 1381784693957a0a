-- The ends of a session that others bring about.
use Rattle.std.specs.Prelude.{ℕ, zero, suc}
use Rattle.wm_core.specs.declared.refusals.ActRefusal.{ActRefusal}
use Rattle.wm_core.specs.declared.refusals.ActRefusal.TheVariants as refusal
use Rattle.wm_frames.specs.declared.message.FrameFault.{FrameFault}
use Rattle.wm_frames.specs.declared.message.FrameFault.TheVariants as frames
use Rattle.wm_ports.specs.declared.links.SendFault.{SendFault}
use Rattle.wm_ports.specs.declared.links.SendFault.TheVariants as fault
use Rattle.wm_session.specs.declared.ending.SessionEnd.{SessionEnd}
use Rattle.wm_session.specs.declared.ending.SessionEnd.TheVariants as end

-- the end for a step that the door did not take
abbrev pub end_of_refusal : ActRefusal → SessionEnd
end_of_refusal refusal.NoMemory = end.NoMemory
end_of_refusal (refusal.Exhausted exhausted) = end.Exhausted

-- the end for a sending that took nothing
abbrev pub end_of_fault : SendFault → SessionEnd
end_of_fault fault.Failed = end.LinkFault
end_of_fault fault.NoMemory = end.NoMemory

-- the end where the link ended with so many bytes of a frame
abbrev pub end_of_rest : ℕ → SessionEnd
end_of_rest zero = end.Closed
end_of_rest (suc n) = end.Truncated (suc n)

-- the end for a fault of the bytes
abbrev pub end_of_frames : FrameFault → SessionEnd
end_of_frames (frames.Magic at) = end.Magic at
end_of_frames (frames.TooLong at len) = end.TooLong at len
end_of_frames frames.NoMemory = end.NoMemory
