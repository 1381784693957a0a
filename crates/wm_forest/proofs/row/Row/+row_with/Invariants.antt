use Rattle.std.proofs.Common.{◌≡◌, ◌≤◌}
use Rattle.wm_forest.specs.Forest.{node_count}
use Rattle.wm_forest.specs.Counts.{row_with}
use Rattle.wm_forest.specs.Look.{has}
use Rattle.wm_forest.proofs.row.Row.+row_with.Given as goal

abbrev pub decreases-row_with : goal.decreases-row_with
decreases-row_with l = node_count l.self.now

-- the row of the node in what is left of the row is its row in the row
abbrev pub invariant-loop-row : goal.invariant-loop-row
invariant-loop-row l = record {
  left : node_count l.row ≤ node_count l.self;
  there : has l.id l.row ≡ has l.id l.self;
  row : row_with l.id l.whole l.row ≡ row_with l.id l.whole l.self;
}
