use Rattle.std.proofs.Common.{◌≡◌, ◌+◌, ◌≤◌}
use Rattle.wm_forest.specs.Counts.{but, row_length}
use Rattle.wm_forest.proofs.row.Row.len_but_up_to.Given as goal

-- the nodes passed, and those left beside this one, are those of the row beside it
abbrev pub invariant-loop-row : goal.invariant-loop-row
invariant-loop-row l = record {
  within : l.length ≤ l.most;
  whole : l.length + row_length (but l.id l.row) ≡ row_length (but l.id l.self);
}
