use Rattle.std.proofs.Common.{◌≡◌, length}
use Rattle.wm_spaces.specs.Targets.{home_name}
use Rattle.wm_spaces.proofs.targets.home_name.Given as goal

-- the first of those that are left is the first of all
abbrev pub invariant-loop-rest : goal.invariant-loop-rest
invariant-loop-rest l = home_name l.name l.rest ≡ home_name l.name l.homes

abbrev pub decreases-loop-rest : goal.decreases-loop-rest
decreases-loop-rest l = length l.rest
