use Rattle.std.proofs.Common.{◌≡◌, ◌≤◌}
use Rattle.wm_forest.specs.Forest.{node_count}
use Rattle.wm_forest.specs.Look.{has, only}
use Rattle.wm_forest.proofs.row.Row.+find.Given as goal

abbrev pub decreases-find : goal.decreases-find
decreases-find l = node_count l.self.now

-- the node in what is left of the row is the node in the row
abbrev pub invariant-loop-row : goal.invariant-loop-row
invariant-loop-row l = record {
  left : node_count l.row ≤ node_count l.self;
  there : has l.id l.row ≡ has l.id l.self;
  node : only l.id l.row ≡ only l.id l.self;
}
