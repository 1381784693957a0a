use Rattle.std.proofs.Common.{◌≡◌, ◌++◌, length}
use Rattle.wm_history.specs.Look.{all_modes}
use Rattle.wm_history.proofs.modes.all_modes.Given as goal

-- the modes so far, and the rest, are all
abbrev pub invariant-loop-rest : goal.invariant-loop-rest
invariant-loop-rest l = l.modes.items ++ l.rest ≡ all_modes l.env

abbrev pub decreases-loop-rest : goal.decreases-loop-rest
decreases-loop-rest l = length l.rest
