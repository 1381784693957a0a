use Rattle.std.proofs.Common.{◌≡◌, ◌≤◌}
use Rattle.wm_forest.specs.Forest.{node_count}
use Rattle.wm_forest.specs.Look.{has}
use Rattle.wm_forest.proofs.row.Row.+has.Given as goal

abbrev pub decreases-has : goal.decreases-has
decreases-has l = node_count l.self.now

-- what is left of the row has the node where the row has it
abbrev pub invariant-loop-row : goal.invariant-loop-row
invariant-loop-row l = record {
  left : node_count l.row ≤ node_count l.self;
  there : has l.id l.row ≡ has l.id l.self;
}
