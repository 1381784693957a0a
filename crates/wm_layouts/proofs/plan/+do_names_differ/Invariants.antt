use Rattle.std.proofs.Common.{length}
use Rattle.wm_layouts.proofs.plan.+do_names_differ.Given as goal

abbrev pub decreases-do_names_differ : goal.decreases-do_names_differ
decreases-do_names_differ l = length l.outputs.now
