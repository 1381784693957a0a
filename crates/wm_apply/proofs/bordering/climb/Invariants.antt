use Rattle.std.proofs.Common.{◌≡◌, length}
use Rattle.wm_apply.specs.Bordering.{climbs}
use Rattle.wm_apply.proofs.bordering.climb.Given as goal

-- the rest rise where all do
abbrev pub invariant-loop-rest : goal.invariant-loop-rest
invariant-loop-rest l = climbs l.rest ≡ climbs l.cons

abbrev pub decreases-loop-rest : goal.decreases-loop-rest
decreases-loop-rest l = length l.rest
