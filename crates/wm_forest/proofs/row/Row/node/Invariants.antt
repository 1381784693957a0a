use Rattle.std.proofs.Common.{◌≡◌}
use Rattle.wm_forest.specs.Look.{node_in}
use Rattle.wm_forest.proofs.row.Row.node.Given as goal

-- the node in what is left of the row is the node in the row
abbrev pub invariant-loop-row : goal.invariant-loop-row
invariant-loop-row l = node_in l.id l.row ≡ node_in l.id l.self
