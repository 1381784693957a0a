use Rattle.std.proofs.Common.{◌≡◌, take}
use Rattle.wm_saved.proofs.copies.copy_swallow.Given as goal

-- those so far
abbrev pub invariant-loop-key : goal.invariant-loop-key
invariant-loop-key l = l.copy.items ≡ take l.key-index l.keys
