use Rattle.std.proofs.Common.{length}
use Rattle.cases_desk.proofs.steps.+are_built.Given as goal

abbrev pub decreases-are_built : goal.decreases-are_built
decreases-are_built l = length l.choices.now
