use Rattle.std.proofs.Common.{◌≡◌, ◌≤◌}
use Rattle.wm_forest.specs.Forest.{node_count}
use Rattle.wm_forest.specs.Settle.{is_settled}
use Rattle.wm_forest.proofs.row.Row.+is_settled.Given as goal

abbrev pub decreases-is_settled : goal.decreases-is_settled
decreases-is_settled l = node_count l.self.now

-- what is left of the row is settled where the row is
abbrev pub invariant-loop-row : goal.invariant-loop-row
invariant-loop-row l = record {
  left : node_count l.row ≤ node_count l.self;
  settled : is_settled l.shown l.row ≡ is_settled l.shown l.self;
}
