use Rattle.std.proofs.Common.{◌≡◌, ◌+◌, ◌-◌, ◌*◌, ◌^◌, ◌≤◌}
use Rattle.wm_forest.specs.Counts.{but, row_length, share_sum}
use Rattle.wm_forest.proofs.row.Row.share_sum_but.Given as goal

-- the shares passed, and those left beside this node's, are those of the row beside it
abbrev pub invariant-loop-row : goal.invariant-loop-row
invariant-loop-row l = record {
  whole : l.sum + share_sum (but l.id l.row) ≡ share_sum (but l.id l.self);
  bound : l.sum + row_length (but l.id l.row) * (2 ^ 32 - 1) ≤ row_length (but l.id l.self) * (2 ^ 32 - 1);
}
