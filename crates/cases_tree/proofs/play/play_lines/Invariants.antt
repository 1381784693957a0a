use Rattle.cases_tree.specs.Desk.{Holds}
use Rattle.cases_tree.proofs.play.play_lines.Given as goal

abbrev pub invariant-loop-line : goal.invariant-loop-line
invariant-loop-line l = Holds l.desk
