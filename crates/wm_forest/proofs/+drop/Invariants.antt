use Rattle.std.proofs.Common.{◌≤◌}
use Rattle.wm_forest.specs.Forest.{node_count}
use Rattle.wm_forest.proofs.+drop.Given as goal

-- what is left of the row has no more nodes than the row
abbrev pub invariant-row::Row::drop-loop-cell : goal.invariant-row::Row::drop-loop-cell
invariant-row::Row::drop-loop-cell l = node_count l.self ≤ node_count l.fn.self
