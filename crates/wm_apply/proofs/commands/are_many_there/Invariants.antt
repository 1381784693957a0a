use Rattle.std.proofs.Common.{◌≡◌, ◌+◌, cond, length}
use Rattle.wm_apply.specs.Commands.{still_there}
use Rattle.wm_apply.proofs.commands.are_many_there.Given as goal

-- the one that was found, and those of the rest that are there
abbrev pub invariant-loop-rest : goal.invariant-loop-rest
invariant-loop-rest l = cond l.found 1 0 + length (still_there l.rest l.t) ≡ length (still_there l.cons l.t)

abbrev pub decreases-loop-rest : goal.decreases-loop-rest
decreases-loop-rest l = length l.rest
