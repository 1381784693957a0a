use Rattle.std.proofs.Common.{◌≡◌}
use Rattle.wm_forest.specs.Forest.{node_count}
use Rattle.wm_spaces.specs.Names.{other_in_row}
use Rattle.wm_spaces.proofs.names.other_in_row.Given as goal

-- what is left of the row has another one where the row has one
abbrev pub invariant-loop-part : goal.invariant-loop-part
invariant-loop-part l = other_in_row l.w l.name l.row ≡ other_in_row l.w l.name l.fn.row

abbrev pub decreases-loop-part : goal.decreases-loop-part
decreases-loop-part l = node_count l.row
