use Rattle.std.proofs.Common.{◌≡◌, take}
use Rattle.wm_layouts.proofs.copies.copy_outputs.Given as goal

abbrev pub invariant-loop-output : goal.invariant-loop-output
invariant-loop-output l = l.copy.items ≡ take l.output-index l.outputs
