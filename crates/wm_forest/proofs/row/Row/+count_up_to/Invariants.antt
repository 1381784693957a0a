use Rattle.std.proofs.Common.{◌≡◌, ◌+◌, ◌≤◌, min}
use Rattle.wm_forest.specs.Counts.{count, counts}
use Rattle.wm_forest.specs.Forest.{node_count}
use Rattle.wm_forest.proofs.row.Row.+count_up_to.Given as goal

abbrev pub decreases-count_up_to : goal.decreases-count_up_to
decreases-count_up_to l = node_count l.self.now

-- what was counted, and what is left of the row, count as much as the row
abbrev pub invariant-loop-row : goal.invariant-loop-row
invariant-loop-row l = record {
  left : node_count l.row ≤ node_count l.self;
  within : l.sum ≤ l.most;
  whole : min l.most (l.sum + count (counts l.counted) l.row) ≡ min l.most (count (counts l.counted) l.self);
}
