use Rattle.std.proofs.Common.{◌≡◌, ◌+◌, ◌-◌, ◌*◌, ◌^◌, ◌≤◌}
use Rattle.wm_forest.specs.Counts.{row_length, share_sum}
use Rattle.wm_forest.proofs.row.Row.share_sum.Given as goal

-- the shares passed, and those left, are those of the row
abbrev pub invariant-loop-row : goal.invariant-loop-row
invariant-loop-row l = record {
  whole : l.sum + share_sum l.row ≡ share_sum l.self;
  bound : l.sum + row_length l.row * (2 ^ 32 - 1) ≤ row_length l.self * (2 ^ 32 - 1);
}
