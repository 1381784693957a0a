use Rattle.std.proofs.Common.{◌≡◌, ◌+◌, false, length}
use Rattle.wm_swallow.specs.Limits.{different}
use Rattle.wm_swallow.proofs.shapes.are_too_many.Given as goal

-- what is left of the room is as much more as the marks that are left are fewer
abbrev pub invariant-loop-rest : goal.invariant-loop-rest
invariant-loop-rest l = l.room + different (λ m. false) l.marks ≡ 32 + different (λ m. false) l.rest

abbrev pub decreases-loop-rest : goal.decreases-loop-rest
decreases-loop-rest l = length l.rest
