use Rattle.std.proofs.Common.{◌≡◌, length}
use Rattle.wm_talk.specs.Talking.{last_number}
use Rattle.wm_talk.proofs.telling.last_number.Given as goal

-- the last of all is the last of the rest, behind the one so far
abbrev pub invariant-loop-rest : goal.invariant-loop-rest
invariant-loop-rest l = last_number l.number l.rest ≡ last_number l.initial.before l.initial.events

abbrev pub decreases-loop-rest : goal.decreases-loop-rest
decreases-loop-rest l = length l.rest
