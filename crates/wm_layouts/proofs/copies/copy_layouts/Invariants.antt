use Rattle.std.proofs.Common.{◌≡◌, take}
use Rattle.wm_layouts.proofs.copies.copy_layouts.Given as goal

abbrev pub invariant-loop-named : goal.invariant-loop-named
invariant-loop-named l = l.copy.items ≡ take l.named-index l.layouts
