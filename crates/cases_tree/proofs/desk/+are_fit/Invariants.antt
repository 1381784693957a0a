use Rattle.std.proofs.Common.{length}
use Rattle.cases_tree.proofs.desk.+are_fit.Given as goal

abbrev pub decreases-are_fit : goal.decreases-are_fit
decreases-are_fit l = length l.plans.now
