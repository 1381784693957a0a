use Rattle.std.proofs.Common.{◌≡◌, length}
use Rattle.wm_history.specs.Screen.{first_back}
use Rattle.wm_history.proofs.screen.first_back.Given as goal

-- the first ground is the first one of the rest
abbrev pub invariant-loop-rest : goal.invariant-loop-rest
invariant-loop-rest l = first_back l.rest ≡ first_back l.parts

abbrev pub decreases-loop-rest : goal.decreases-loop-rest
decreases-loop-rest l = length l.rest
