use Rattle.std.proofs.Common.{◌≡◌, take}
use Rattle.wm_forest.proofs.copy.copy_swallows.Given as goal

abbrev pub invariant-loop-swallow : goal.invariant-loop-swallow
invariant-loop-swallow l = l.copy.items ≡ take l.swallow-index l.swallows
