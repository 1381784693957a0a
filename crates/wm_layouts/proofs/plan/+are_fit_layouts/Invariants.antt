use Rattle.std.proofs.Common.{length}
use Rattle.wm_layouts.proofs.plan.+are_fit_layouts.Given as goal

abbrev pub decreases-are_fit_layouts : goal.decreases-are_fit_layouts
decreases-are_fit_layouts l = length l.layouts.now
