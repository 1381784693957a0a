use Rattle.std.proofs.Common.{◌≡◌, ◌+◌, ◌≤◌}
use Rattle.wm_forest.specs.Counts.{row_length}
use Rattle.wm_forest.proofs.row.Row.len_up_to.Given as goal

-- the nodes passed, and those left, are those of the row
abbrev pub invariant-loop-row : goal.invariant-loop-row
invariant-loop-row l = record {
  within : l.length ≤ l.most;
  whole : l.length + row_length l.row ≡ row_length l.self;
}
