use Rattle.std.proofs.Common.{◌≡◌, take}
use Rattle.wm_saved.proofs.copies.copy_swallows.Given as goal

-- those so far
abbrev pub invariant-loop-swallow : goal.invariant-loop-swallow
invariant-loop-swallow l = l.copy.items ≡ take l.swallow-index l.swallows
