use Rattle.std.proofs.Common.{◌≡◌, ◌++◌, length}
use Rattle.wm_talk.specs.Frames.{frames}
use Rattle.wm_talk.proofs.framing.push_frames.Given as goal

-- the frames so far and those of the rest are those of all
abbrev pub invariant-loop-rest : goal.invariant-loop-rest
invariant-loop-rest l = l.bytes.items ++ frames l.rest ≡ l.initial.bytes.items ++ frames l.initial.messages

abbrev pub decreases-loop-rest : goal.decreases-loop-rest
decreases-loop-rest l = length l.rest
