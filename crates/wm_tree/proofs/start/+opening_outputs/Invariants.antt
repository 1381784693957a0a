use Rattle.std.proofs.Common.{length}
use Rattle.wm_tree.proofs.start.+opening_outputs.Given as goal

abbrev pub decreases-opening_outputs : goal.decreases-opening_outputs
decreases-opening_outputs l = length l.plans.now
