use Rattle.std.proofs.Common.{◌≡◌}
use Rattle.wm_forest.specs.Forest.{node_count}
use Rattle.wm_forest.specs.Look.{in_row}
use Rattle.cases_tree.proofs.desk.is_in.Given as goal

-- the node is in what is left of the row where it is in the row
abbrev pub invariant-loop-part : goal.invariant-loop-part
invariant-loop-part l = in_row l.con l.row ≡ in_row l.con l.fn.row

abbrev pub decreases-loop-part : goal.decreases-loop-part
decreases-loop-part l = node_count l.row
