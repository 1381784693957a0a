use Rattle.cases_tree.specs.Desk.{Holds}
use Rattle.cases_tree.proofs.play.times.Given as goal

abbrev pub invariant-loop : goal.invariant-loop
invariant-loop l = Holds l.desk
