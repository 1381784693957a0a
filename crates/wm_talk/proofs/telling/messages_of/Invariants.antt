use Rattle.std.proofs.Common.{◌≡◌, ◌++◌, length}
use Rattle.wm_talk.specs.Told.{messages_of}
use Rattle.wm_talk.proofs.telling.messages_of.Given as goal

-- the messages so far and those of the rest are those of all
abbrev pub invariant-loop-rest : goal.invariant-loop-rest
invariant-loop-rest l = l.messages.items ++ messages_of l.since l.rest ≡ messages_of l.initial.since l.initial.events

abbrev pub decreases-loop-rest : goal.decreases-loop-rest
decreases-loop-rest l = length l.rest
